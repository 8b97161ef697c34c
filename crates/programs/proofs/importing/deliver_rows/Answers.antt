use Rattle.std.proofs.Common.{List, rules, subst, sym}
use Rattle.builder.specs.Life.{IsProperDelivery}
use Rattle.ring_book.specs.Book.{steps_of}
use Rattle.request_book.specs.Call.{Deliver}
use Rattle.request_book.specs.Made.{Makes}
use Rattle.ring_words.specs.declared.command.Act.TheVariants as act
use Rattle.ring_words.specs.declared.device.Row.{Row}
use Rattle.programs.proofs.importing.deliver_rows.Goals as goal

pub returns : goal.returns
returns g c =
    let Made : List Row → Type 0 = λ rows. Makes steps_of g.K.Keeper.content g.K.Keeper.sound
    g.K.Keeper.limit g.K.Keeper.fault_count g.K.Keeper.may_leave c.open_book-book.result
    c.deliver.new.self (Deliver (record {
      hour = c.args.hour;
      key = c.args.ask.key;
      command = record { ring = c.args.ask.ring; act = act.Import rows };
    }) c.deliver.result) in
    let IsProper : List Row → Type 0 = λ rows. IsProperDelivery (record {
      hour = c.args.hour;
      key = c.args.ask.key;
      command = record { ring = c.args.ask.ring; act = act.Import rows };
    }) in
    record {
      book = c.open_book-book.result;
      later = c.deliver.new.self;
      opened = c.open_book-book.ensures;
      left = sym c.into_keeper.ensures;
      answer = c.deliver.result;
      made = subst Made c.new.ensures c.deliver.ensures.made;
      told_is = c.told_of-told.ensures;
      proper = subst IsProper c.new.ensures (c.command_is_proper.ensures, search rules);
    }
