use Rattle.std.proofs.Common.{◌≡◌, ◌≤◌, length, ◌∙◌}
use Rattle.std.proofs.lemmas.List.{length-map}
use Rattle.ring_model.specs.Rings.{seen}
use Rattle.ring_model.proofs.ByName.{same_rings}
use Rattle.ring_model.proofs.rings.RingsClone.clone.Goals as goal

pub invariant_of-result : goal.invariant_of-result
invariant_of-result c =
    let same : seen c.in_ok-rings.rings.items ≡ seen c.self.inside.rings.items =
    same_rings _ _ c.in_ok-rings.ensures.cases.0 in
    let few : length (seen c.in_ok-rings.rings.items) ≤ 16 =
    rw (same, length-map) c.self.invariant.0 in
    (rw length-map at few, rw same c.self.invariant.1)

pub returns : goal.returns
returns c = record { cases = same_rings _ _ c.in_ok-rings.ensures.cases.0 ∙ c.self.view_is }
