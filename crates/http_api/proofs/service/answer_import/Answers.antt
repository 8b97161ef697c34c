use Rattle.std.proofs.Common.{List, Some, ap, refl, rules}
use Rattle.csv_import.specs.Rows.{AreRows, records_of}
use Rattle.request_book.specs.Call.{Deliver}
use Rattle.ring_words.specs.declared.command.Act.TheVariants as act
use Rattle.ring_words.specs.declared.command.Command.{Command}
use Rattle.ring_words.specs.declared.device.Row.{Row}
use Rattle.http_api.proofs.service.answer_import.Goals as goal

pub returns-in-Ok : goal.returns-in-Ok
returns-in-Ok g c =
    let d = c.deliver_now.ensures in
    let rows : AreRows (records_of c.args.body.now) c.in-Ok.rows.items =
    c.in-Ok.ensures.rows c.args.body.now (search rules) in (
      Some (Deliver (record {
        hour = d.hour;
        key = c.args.key;
        command =
            record { ring = c.args.ring; act = act.Import c.new-in-Ok.result };
      }) d.answer),
      d.made,
      (
        d.clock,
        refl,
        (
          c.in-Ok.rows.items,
          rows,
          ap (λ (rs : List Row). let command : Command =
              record { ring = c.args.ring; act = act.Import rs } in command) c.new-in-Ok.ensures,
        ),
        d.told_is,
        d.proper,
      ),
    )
