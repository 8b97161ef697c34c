use Rattle.std.proofs.Common.{◌≡◌, ◌-◌, ℕ, List, length, true, subst, sym, ◌∙◌, arith}
use Rattle.std.specs.List.{AllByRecursion}
use Rattle.std.proofs.lemmas.List.Elements.{recursion_from_All}
use Rattle.ring_model.specs.Ring.{RingRecord}
use Rattle.ring_model.specs.Rings.{is_before}
use Rattle.store_rows.specs.RingRows.{NamedRings}
use Rattle.store_rows.proofs.Parting.{ring_before}
use Rattle.store_rows.proofs.rings_reading.comes_last.Goals as goal

pub returns-in-Some : goal.returns-in-Some
returns-in-Some c = λ all.
    let some = c.in-Some.ensures.item.3.0 in
    c.lt.ensures ∙ ring_before c.args.name.now c.list.result.now (length c.list.result.now - 1)
    c.in-Some.last.now (omega arith) c.in-Some.ensures.item.1
    (subst (λ (rings : NamedRings).
    AllByRecursion (λ (e : List ℕ × RingRecord). is_before e.0 c.args.name.now ≡ true) rings)
    (sym c.list.ensures.value)
    (recursion_from_All (λ (e : List ℕ × RingRecord). is_before e.0 c.args.name.now ≡ true)
    c.args.rings.now all))
