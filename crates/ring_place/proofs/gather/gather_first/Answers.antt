use Rattle.std.proofs.Common.{◌≡◌, ◌∙◌, sym, ap, refl, arith, map, true, false, ⊎_elim}
use Rattle.std.specs.List.{list_any}
use Rattle.ring_model.specs.Ring.{has_device}
use Rattle.ring_place.specs.Inner.Gathering.{Calm, Crowded, Drained, LostFirst}
use Rattle.ring_place.specs.Made.{is_lost_in}
use Rattle.ring_place.specs.Inner.Gathering.{present_only}
use Rattle.ring_room.proofs.Searching.LessCrowded.{one_here}
use Rattle.ring_place.proofs.Gathering.TakenSeats.{takes_one}
use Rattle.ring_place.specs.Made.{best_seat}
use Rattle.ring_place.proofs.Gathering.ByName.{first_at, first_locked, first_lost, lifted_none}
use Rattle.ring_place.proofs.Gathering.ByName.{lifted_some}
use Rattle.ring_place.specs.declared.gather.Pass.TheVariants.{First}
use Rattle.ring_place.proofs.gather.gather_first.Goals as goal

pub returns-then-has_lost-clause-first : goal.returns-then-has_lost-clause-first
returns-then-has_lost-clause-first c = LostFirst
    (ap (λ ds. list_any (is_lost_in ds) c.args.row.now) (sym c.requires.same) ∙ sym
    c.has_lost.ensures ∙ c.if-has_lost.true)
    (c.lift_lost.ensures.row ∙ ap (λ ds. map (present_only ds) c.args.row.now) c.requires.same)

pub returns-in-Some-clause-first : goal.returns-in-Some-clause-first
returns-in-Some-clause-first c =
    let found = c.in-Some.ensures.some in
    let none : list_any (is_lost_in c.args.was.now.devices) c.args.row.now ≡ false =
    ap (λ ds. list_any (is_lost_in ds) c.args.row.now) (sym c.requires.same) ∙ sym
    c.has_lost.ensures ∙ c.if-has_lost.false in
    ⊎_elim
    (λ drained. Drained none c.if-not-locked.true found.0 c.in-Some.device found.1 drained)
    (λ crowded. Crowded none c.if-not-locked.true found.0 c.in-Some.device found.1 crowded)
    found.2

pub returns-in-Some-clause-takes : goal.returns-in-Some-clause-takes
returns-in-Some-clause-takes c =
    let before = c.args.kept.now in
    let row = c.args.row.now in
    let found = c.in-Some.ensures.some in
    let known : has_device c.in-Some.device before.devices ≡ true = ap (has_device c.in-Some.device)
    c.requires.same ∙ c.requires.row found.0 c.in-Some.device found.1.at in
    takes_one before c.take.new.self row c.lift_best.new.row found.0 c.in-Some.device
    c.requires.load known
    (omega (
      arith,
      one_here row found.0 c.in-Some.device found.1.at,
      c.requires.has c.in-Some.device
          known,
    )) found.1 c.take.ensures

pub returns-in_default-clause-first : goal.returns-in_default-clause-first
returns-in_default-clause-first c =
    Calm (ap (λ ds. list_any (is_lost_in ds) c.args.row.now) (sym c.requires.same) ∙ sym
    c.has_lost.ensures ∙ c.if-has_lost.false)
    c.in_default.ensures.none.0 (λ unlocked. c.in_default.ensures.none.1)

pub returns-else-not-locked-clause-first : goal.returns-else-not-locked-clause-first
returns-else-not-locked-clause-first c =
    Calm (ap (λ ds. list_any (is_lost_in ds) c.args.row.now) (sym c.requires.same) ∙ sym
    c.has_lost.ensures ∙ c.if-has_lost.false)
    refl (λ unlocked. absurd (let held = c.if-not-locked.false in cc (unlocked, held)))

pub returns-then-has_lost-clause-by_name : goal.returns-then-has_lost-clause-by_name
returns-then-has_lost-clause-by_name c = c.lift_lost.ensures.by_name ∙ first_lost c.args.was.now c.args.kept.now c.args.locked c.args.row.now
    (sym c.has_lost.ensures ∙ c.if-has_lost.true)

pub returns-in-Some-clause-by_name : goal.returns-in-Some-clause-by_name
returns-in-Some-clause-by_name c = lifted_some c.args.kept.now _ c.args.row.now _
    (best_seat First c.args.was.now c.args.kept.now c.args.row.now) c.in-Some.device (sym c.in-Some.is ∙ c.lift_best.ensures.device)
    c.lift_best.ensures.left c.take.ensures
    ∙ first_at c.args.was.now c.args.kept.now c.args.locked c.args.row.now (sym c.has_lost.ensures ∙ c.if-has_lost.false) c.if-not-locked.true

pub returns-in_default-clause-by_name : goal.returns-in_default-clause-by_name
returns-in_default-clause-by_name c = lifted_none c.args.kept.now c.args.row.now _
    (best_seat First c.args.was.now c.args.kept.now c.args.row.now) (sym c.in_default.is ∙ c.lift_best.ensures.device)
    c.lift_best.ensures.left
    ∙ first_at c.args.was.now c.args.kept.now c.args.locked c.args.row.now (sym c.has_lost.ensures ∙ c.if-has_lost.false) c.if-not-locked.true

pub returns-else-not-locked-clause-by_name : goal.returns-else-not-locked-clause-by_name
returns-else-not-locked-clause-by_name c = first_locked c.args.was.now c.args.kept.now c.args.locked
    c.args.row.now (sym c.has_lost.ensures ∙ c.if-has_lost.false) c.if-not-locked.false
