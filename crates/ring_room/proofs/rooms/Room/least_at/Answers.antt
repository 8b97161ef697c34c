use Rattle.std.proofs.Common.{◌≡◌, ℕ, ◌%◌, false, refl, sym, subst, take, length, ◌∙◌}
use Rattle.std.specs.Option.{IfNone}
use Rattle.std.proofs.lemmas.List.{length-take-le}
use Rattle.ring_room.specs.Load.{is_free_in}
use Rattle.ring_room.specs.Places.{id_at, seats_at}
use Rattle.ring_room.specs.Inner.Places.{IsBestSoFar}
use Rattle.ring_room.proofs.Searching.RoomyPlaces.{first_listed}
use Rattle.ring_room.proofs.Searching.FreeOutside.{least_at_end, none_at_end, none_roomy}
use Rattle.std.proofs.Common.{ap, arith, Some, None}
use Rattle.ring_room.proofs.Searching.ByName.{least_is, least_none, roomy_listed}
use Rattle.ring_room.proofs.rooms.Room.least_at.Goals as goal

pub returns-then-self-eq0-clause-none : goal.returns-then-self-eq0-clause-none
returns-then-self-eq0-clause-none c id =
    let inside = c.self.inside in
    let now = c.args.self.now in
    let listed = first_listed _ now inside.roomy.items inside.roomy.items inside.count
    c.self.view_is refl c.self.invariant.listed in
    let long = length-take-le inside.count inside.roomy.items c.self.invariant.few in
    none_roomy now (seats_at now.devices c.args.others.now) (take inside.count inside.roomy.items)
    listed (long ∙ c.if-self-eq0.true) id

pub least_of-requires-clause-places : goal.least_of-requires-clause-places
least_of-requires-clause-places c =
    (first_listed _ c.args.self.now c.self.inside.roomy.items c.deref.result.now c.self.inside.count
    c.self.view_is c.deref.ensures.value c.self.invariant.listed).within

pub least_of-requires-clause-room : goal.least_of-requires-clause-room
least_of-requires-clause-room c =
    (first_listed _ c.args.self.now c.self.inside.roomy.items c.deref.result.now c.self.inside.count
    c.self.view_is c.deref.ensures.value c.self.invariant.listed).roomy

pub returns-in_err-best-clause-none : goal.returns-in_err-best-clause-none
returns-in_err-best-clause-none c =
    let inside = c.self.inside in
    let now = c.args.self.now in
    let row = seats_at now.devices c.args.others.now in
    let items = c.deref.result.now in
    let are = first_listed _ now inside.roomy.items items inside.count c.self.view_is
    c.deref.ensures.value c.self.invariant.listed in
    let best = subst (λ b. IsBestSoFar (take inside.count items) (c.args.draw % inside.count)
    (length (take inside.count items)) now row b) c.in_err-best.was c.least_of.ensures.best in
    subst (λ r. IfNone r ((id : ℕ) → is_free_in now row id ≡ false)) (sym c.from_residual.ensures)
    (none_at_end now row row _ _ refl are c.least_of.ensures.start best)

pub returns-clause-within : goal.returns-clause-within
returns-clause-within c =
    let inside = c.self.inside in
    let now = c.args.self.now in
    let row = seats_at now.devices c.args.others.now in
    let items = c.deref.result.now in
    let best = subst (λ b. IsBestSoFar (take inside.count items) (c.args.draw % inside.count)
    (length (take inside.count items)) now row b) c.in_ok-best.was c.least_of.ensures.best in
    best.0.within

pub returns-clause-found : goal.returns-clause-found
returns-clause-found c =
    let inside = c.self.inside in
    let now = c.args.self.now in
    let row = seats_at now.devices c.args.others.now in
    let items = c.deref.result.now in
    let are = first_listed _ now inside.roomy.items items inside.count c.self.view_is
    c.deref.ensures.value c.self.invariant.listed in
    let best = subst (λ b. IsBestSoFar (take inside.count items) (c.args.draw % inside.count)
    (length (take inside.count items)) now row b) c.in_ok-best.was c.least_of.ensures.best in
    least_at_end now row row _ _ c.in_ok-best.best.0 (id_at now.devices c.in_ok-best.best.0) refl
    are c.least_of.ensures.start refl best.0

pub returns-then-self-eq0-clause-value : goal.returns-then-self-eq0-clause-value
returns-then-self-eq0-clause-value c =
    let inside = c.self.inside in
    let now = c.args.self.now in
    let listed = roomy_listed _ now inside.roomy.items inside.roomy.items inside.count
    c.self.view_is refl c.self.invariant.in_order in
    let long = length-take-le inside.count inside.roomy.items c.self.invariant.few in
    least_none now (seats_at now.devices c.args.others.now) c.args.draw
    (ap length (sym listed) ∙ long ∙ c.if-self-eq0.true)

pub returns-in_err-best-clause-value : goal.returns-in_err-best-clause-value
returns-in_err-best-clause-value c =
    c.from_residual.ensures ∙ (
    let inside = c.self.inside in
    let now = c.args.self.now in
    let items = c.deref.result.now in
    let listed = roomy_listed _ now inside.roomy.items items inside.count
    c.self.view_is c.deref.ensures.value c.self.invariant.in_order in
    let same = c.deref.ensures.value in
    let count = ap length same in
    let few = c.self.invariant.few in
    let long = length-take-le inside.count items (omega (arith, few, count)) in
    least_is now (seats_at now.devices c.args.others.now) c.args.draw inside.count (take inside.count items)
    None listed long (sym c.in_err-best.was ∙ c.least_of.ensures.value))

pub returns-clause-value : goal.returns-clause-value
returns-clause-value c =
    let inside = c.self.inside in
    let now = c.args.self.now in
    let items = c.deref.result.now in
    let listed = roomy_listed _ now inside.roomy.items items inside.count
    c.self.view_is c.deref.ensures.value c.self.invariant.in_order in
    let same = c.deref.ensures.value in
    let count = ap length same in
    let few = c.self.invariant.few in
    let long = length-take-le inside.count items (omega (arith, few, count)) in
    least_is now (seats_at now.devices c.args.others.now) c.args.draw inside.count (take inside.count items)
    (Some c.in_ok-best.best) listed long (sym c.in_ok-best.was ∙ c.least_of.ensures.value)
