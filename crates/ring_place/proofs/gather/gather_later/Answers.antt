use Rattle.std.proofs.Common.{◌≡◌, ◌∙◌, sym, ap, subst, ◌≤◌, arith, true}
use Rattle.ring_model.specs.Ring.{has_device}
use Rattle.ring_room.specs.Load.{have_in, load_take, want_in}
use Rattle.ring_place.specs.Inner.Gathering.{IsLifting}
use Rattle.ring_place.specs.Made.{best_seat}
use Rattle.ring_place.proofs.Gathering.ByName.{later_at, lifted_none, lifted_some}
use Rattle.ring_place.proofs.Gathering.LaterPasses.{keeps_more, later_lifts, later_rests}
use Rattle.ring_place.proofs.Gathering.TakenSeats.{falls_one, have_taken_same, takes_one}
use Rattle.ring_place.proofs.gather.gather_later.Goals as goal

pub returns-in-Some-clause-lifted : goal.returns-in-Some-clause-lifted
returns-in-Some-clause-lifted c =
    let was = c.args.was.now in
    let before = c.args.kept.now in
    let row = c.args.row.now in
    let found = c.in-Some.ensures.some in
    let known : has_device c.in-Some.device before.devices ≡ true = ap (has_device c.in-Some.device)
    c.requires.same ∙ c.requires.row found.0 c.in-Some.device found.1.at in
    let less = have_taken_same before c.requires.load c.in-Some.device known in
    let over = keeps_more c.args.pass was before row found.0 c.in-Some.device c.requires.later
    found.2 in
    let still : want_in (load_take before c.in-Some.device) c.in-Some.device ≤ have_in
    (load_take before c.in-Some.device) c.in-Some.device = omega (arith, less, over) in
    subst (λ k. IsLifting c.args.pass was k c.args.locked row c.lift_best.new.row)
    (sym c.take.ensures)
    (later_lifts c.args.pass was before (load_take before c.in-Some.device) c.args.locked row
    c.lift_best.new.row found.0 c.in-Some.device c.requires.later
    (sym c.has_empty.ensures ∙ c.if-has_empty.false) c.if-locked.false
    (sym c.has_free.ensures ∙ c.if-not-has_free.false) found.1 found.2 still)

pub returns-in-Some-clause-takes : goal.returns-in-Some-clause-takes
returns-in-Some-clause-takes c =
    let before = c.args.kept.now in
    let found = c.in-Some.ensures.some in
    let known : has_device c.in-Some.device before.devices ≡ true = ap (has_device c.in-Some.device)
    c.requires.same ∙ c.requires.row found.0 c.in-Some.device found.1.at in
    let over = keeps_more c.args.pass c.args.was.now before c.args.row.now found.0 c.in-Some.device
    c.requires.later found.2 in
    takes_one before c.take.new.self c.args.row.now c.lift_best.new.row found.0 c.in-Some.device
    c.requires.load known (omega (arith, over)) found.1 c.take.ensures

pub returns-in-Some-clause-falls : goal.returns-in-Some-clause-falls
returns-in-Some-clause-falls c =
    let before = c.args.kept.now in
    let found = c.in-Some.ensures.some in
    let known : has_device c.in-Some.device before.devices ≡ true = ap (has_device c.in-Some.device)
    c.requires.same ∙ c.requires.row found.0 c.in-Some.device found.1.at in
    falls_one before c.take.new.self c.in-Some.device c.requires.load known
    (keeps_more c.args.pass c.args.was.now before c.args.row.now found.0 c.in-Some.device
    c.requires.later found.2) c.take.ensures

pub returns-in_default-clause-lifted : goal.returns-in_default-clause-lifted
returns-in_default-clause-lifted c = later_rests c.args.pass c.args.was.now c.args.kept.now
    c.args.locked c.args.row.now c.lift_best.new.row c.requires.later c.in_default.ensures.none.0
    (λ full unlocked free. c.in_default.ensures.none.1)

pub returns-in-Some-clause-by_name : goal.returns-in-Some-clause-by_name
returns-in-Some-clause-by_name c =
    lifted_some c.args.kept.now _ c.args.row.now _
    (best_seat c.args.pass c.args.was.now c.args.kept.now c.args.row.now) c.in-Some.device
    (sym c.in-Some.is ∙ c.lift_best.ensures.device) c.lift_best.ensures.left c.take.ensures
    ∙ later_at c.args.pass c.args.was.now c.args.kept.now c.args.locked c.args.row.now
    c.if-locked.false (sym c.has_empty.ensures ∙ c.if-has_empty.false)
    (sym c.has_free.ensures ∙ c.if-not-has_free.false)

pub returns-in_default-clause-by_name : goal.returns-in_default-clause-by_name
returns-in_default-clause-by_name c =
    lifted_none c.args.kept.now c.args.row.now _
    (best_seat c.args.pass c.args.was.now c.args.kept.now c.args.row.now)
    (sym c.in_default.is ∙ c.lift_best.ensures.device) c.lift_best.ensures.left
    ∙ later_at c.args.pass c.args.was.now c.args.kept.now c.args.locked c.args.row.now
    c.if-locked.false (sym c.has_empty.ensures ∙ c.if-has_empty.false)
    (sym c.has_free.ensures ∙ c.if-not-has_free.false)
