use Rattle.std.proofs.Common.{◌≡◌, ◌<◌, ◌∙◌, ℕ, List, length, Option, Some, None, false, sym, ap}
use Rattle.std.proofs.Common.{arith}
use Rattle.std.specs.Option.{is_some, option_map}
use Rattle.std.proofs.lemmas.List.{length-map}
use Rattle.ring_words.specs.Limits.{most_rings}
use Rattle.ring_model.specs.Rings.{seen, with_ring}
use Rattle.ring_founding.proofs.Founded.{ring_there}
use Rattle.ring_founding.proofs.founding.with_founded.Goals as goal

-- Where nothing was found there is nothing.
not_found : {A B : Type 0} (v : A → B) (r : Option A) (o : Option B) → is_some r ≡ false →
    option_map v r ≡ o → o ≡ None
not_found v None o nothing is = sym is
not_found v (Some x) o nothing is = cc

pub returns-then-is_some-clause-unfounded : goal.returns-then-is_some-clause-unfounded
returns-then-is_some-clause-unfounded c = ring_there (λ ring. ring.now) c.get.result _
    (sym c.is_some.ensures ∙ c.if-is_some.true) (rw c.name.ensures.value at c.get.ensures)

pub with-requires : goal.with-requires
with-requires c = λ new.
    let count : length (seen c.list.result.now) ≡ length c.args.rings.now = ap length
    c.list.ensures.value in
    omega (arith, rw length-map at count)

pub returns-clause-founded : goal.returns-clause-founded
returns-clause-founded c =
    let count : length (seen c.list.result.now) ≡ length c.args.rings.now = ap length
    c.list.ensures.value in
    let few : length c.args.rings.now < most_rings = omega (arith, rw length-map at count) in (
      c.in_ok-ring.ring,
      c.in_ok-ring.ensures,
      not_found (λ ring. ring.now) c.get.result _ (sym c.is_some.ensures ∙ c.if-is_some.false)
          (rw c.name.ensures.value at c.get.ensures),
      few,
      c.in_ok-with.ensures ∙ ap (λ (n : List ℕ). with_ring c.args.rings.now n c.in_ok-ring.ring)
          (c.in_ok-clone.ensures.cases ∙ c.name-2.ensures.value),
    )
