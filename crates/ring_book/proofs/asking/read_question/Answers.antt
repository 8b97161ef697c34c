use Rattle.std.proofs.Common.{◌∙◌, Err, Ok, ap, rules, sym, ℕ}
use Rattle.std.specs.Prelude.{Vec}
use Rattle.std.specs.declared.alloc.Global.{Global}
use Rattle.builder.specs.Life.{BookContent}
use Rattle.ring_reads.specs.Holding.{holding_of}
use Rattle.ring_book.specs.Book.{Found}
use Rattle.ring_book.proofs.Holdings.{read_as, still_held}
use Rattle.ring_book.proofs.asking.read_question.Goals as goal

pub returns-in-Ok-clause-told : goal.returns-in-Ok-clause-told
returns-in-Ok-clause-told g c =
    let old = c.args.book.now in
    let new = c.load.new.self in
    let same = c.load.ensures.content in
    let Finds = Found g.K.Keeper c.args.clock old new in
    let found : Finds.held (holding_of c.held_in.result) =
    λ sound. c.held_in.ensures sound
    (c.in-Ok.ensures.hour sound ∙ sym (ap (λ (all : BookContent). all.hour) (same sound)))
    ∙ still_held g.K.Keeper c.args.clock old.keeper new.keeper (same sound) c.load.ensures.made.limits in (
      Ok tt,
      search rules,
      read_as Finds c.args.names.prefix.now c.args.names.suffix.now
          c.args.question.now (holding_of c.held_in.result) c.read_held.result
          (λ (bytes : Vec ℕ Global). bytes.items) found c.read_held.ensures.told,
    )

pub returns-in-Err-clause-told : goal.returns-in-Err-clause-told
returns-in-Err-clause-told g c = (Err c.in-Err.fault, search rules, search rules)
