use Rattle.std.proofs.Common.{◌∙◌, sym, ap, refl}
use Rattle.std.specs.List.{list_any}
use Rattle.ring_place.specs.Inner.Gathering.{Calm}
use Rattle.ring_place.specs.Made.{is_lost_in, lifted_at}
use Rattle.ring_place.proofs.Gathering.BothPasses.{none_empty}
use Rattle.ring_place.proofs.Gathering.ByName.{first_at, first_locked}
use Rattle.ring_place.proofs.Gathering.BestSeats.{none_crowded}
use Rattle.ring_place.proofs.gather.may_lift_first.Goals as goal

pub may_leave-requires-clause-full : goal.may_leave-requires-clause-full
may_leave-requires-clause-full c = none_empty c.args.kept.now.devices c.args.row.now
    (sym c.has_lost.ensures ∙ c.if-has_lost.false)

pub returns-then-locked-clause-rests : goal.returns-then-locked-clause-rests
returns-then-locked-clause-rests c = λ no. Calm
    (ap (λ ds. list_any (is_lost_in ds) c.args.row.now) (sym c.requires.same) ∙ sym
    c.has_lost.ensures ∙ c.if-has_lost.false)
    refl (λ unlocked. absurd (let held = c.if-locked.true in cc (unlocked, held)))

pub returns-then-locked-clause-by_name : goal.returns-then-locked-clause-by_name
returns-then-locked-clause-by_name c = λ no. first_locked c.args.was.now c.args.kept.now c.args.locked
    c.args.row.now (sym c.has_lost.ensures ∙ c.if-has_lost.false) c.if-locked.true

pub returns-clause-rests : goal.returns-clause-rests
returns-clause-rests c = λ no. Calm
    (ap (λ ds. list_any (is_lost_in ds) c.args.row.now) (sym c.requires.same) ∙ sym
    c.has_lost.ensures ∙ c.if-has_lost.false)
    refl (λ unlocked. c.may_leave.ensures no)

pub returns-clause-by_name : goal.returns-clause-by_name
returns-clause-by_name c = λ no. ap (lifted_at c.args.kept.now c.args.row.now)
    (none_crowded c.args.was.now c.args.kept.now c.args.row.now (c.may_leave.ensures no))
    ∙ first_at c.args.was.now c.args.kept.now c.args.locked c.args.row.now
    (sym c.has_lost.ensures ∙ c.if-has_lost.false) c.if-locked.false
