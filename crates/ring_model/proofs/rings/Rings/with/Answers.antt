use Rattle.std.proofs.Common.{◌≡◌, ◌≤◌, List, ℕ, length, refl, ap, ◌∙◌}
use Rattle.std.proofs.lemmas.List.{length-map}
use Rattle.ring_model.specs.Ring.{RingRecord}
use Rattle.ring_model.specs.Rings.{seen, with_ring}
use Rattle.ring_model.proofs.ByName.{at_most_with, by_name_with, joined_rings}
use Rattle.ring_model.proofs.rings.Rings.with.Goals as goal

pub invariant_of-result : goal.invariant_of-result
invariant_of-result c =
    let new : seen c.push_after.new.into.items ≡ with_ring (seen c.self.inside.rings.items)
    c.args.name c.args.ring =
    joined_rings _ (seen c.new-rings.result.items) (seen c.push_before.new.into.items)
    (seen c.push_if.new.into.items) (seen c.push_after.new.into.items) c.args.name c.args.ring
    (rw c.new-rings.ensures.items refl) (rw c.deref.ensures.value at c.in_ok-push_before.ensures)
    (rw (c.in_ok-new.ensures.ok, c.name.view_is) at c.in_ok-push_if.ensures)
    (rw (c.deref-2.ensures.value, c.name.view_is) at c.in_ok-push_after.ensures) in
    let count : length (seen c.self.inside.rings.items) ≤ 16 = rw length-map c.self.invariant.0 in
    let few : length (seen c.push_after.new.into.items) ≤ 16 =
    rw new (at_most_with (seen c.self.inside.rings.items) c.args.name c.args.ring 16 count
    (λ unknown. rw c.self.view_is (c.requires (rw (← c.self.view_is) unknown)))) in (
      rw length-map at few,
      rw new (by_name_with (seen c.self.inside.rings.items) c.args.name
          c.args.ring c.self.invariant.1),
    )

pub returns : goal.returns
returns c =
    joined_rings _ (seen c.new-rings.result.items) (seen c.push_before.new.into.items)
    (seen c.push_if.new.into.items) (seen c.push_after.new.into.items) c.args.name c.args.ring
    (rw c.new-rings.ensures.items refl) (rw c.deref.ensures.value at c.in_ok-push_before.ensures)
    (rw (c.in_ok-new.ensures.ok, c.name.view_is) at c.in_ok-push_if.ensures)
    (rw (c.deref-2.ensures.value, c.name.view_is) at c.in_ok-push_after.ensures)
    ∙ ap (λ (r : List (List ℕ × RingRecord)). with_ring r c.args.name c.args.ring) c.self.view_is
