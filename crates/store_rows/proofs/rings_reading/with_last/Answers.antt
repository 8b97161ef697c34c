use Rattle.std.proofs.Common.{arith}
use Rattle.std.proofs.lemmas.Grind.{common_steps}
use Rattle.std.proofs.Common.{true, ◌≡◌, ℕ, List, ◌∙◌}
use Rattle.std.proofs.lemmas.List.Elements.{recursion_from_All}
use Rattle.ring_model.specs.Ring.{RingRecord}
use Rattle.ring_model.specs.Rings.{is_before}
use Rattle.store_rows.proofs.Parting.{last_ring}
use Rattle.store_rows.proofs.rings_reading.with_last.Goals as goal

pub returns-clause-last : goal.returns-clause-last
returns-clause-last c = λ all. c.in_ok-with.ensures ∙ last_ring c.args.rings.now c.args.name
    c.args.ring (recursion_from_All (λ (e : List ℕ × RingRecord). is_before e.0 c.args.name ≡ true)
    c.args.rings.now all)

pub with-requires : goal.with-requires
with-requires c = grind (arith, common_steps)
