use Rattle.std.proofs.Common.{◌≡◌, ◌∙◌, ℕ, List, ap, arith, codes, length, map, subst, sym}
use Rattle.std.proofs.lemmas.List.{length-map}
use Rattle.std.proofs.lemmas.Result.{err_from_is_err_and}
use Rattle.ring_log.specs.Inquiries.{most_told}
use Rattle.ring_words.specs.Limits.{greatest_long}
use Rattle.ring_words.specs.Spelling.{SpellsNumber}
use Rattle.ring_words.proofs.Spelled.{reads_err}
use Rattle.http_routes.specs.Inner.Pairs.{pair_text}
use Rattle.http_routes.specs.Queries.{IsLogQuery, pairs_of, values_of_pairs}
use Rattle.http_routes.proofs.LogQueries.{counted, found_in, place_said, size_said, unsaid}
use Rattle.http_routes.proofs.query.read_part.Goals as goal

abbrev Pairs : Type 0
Pairs = List (List ℕ × List ℕ)

pub returns-in_err-from : goal.returns-in_err-from
returns-in_err-from c =
    let pairs : Pairs = pairs_of c.args.query.now in
    let read : map pair_text c.deref.result.now ≡ pairs =
    ap (map pair_text) c.deref.ensures.value ∙ c.in_ok-pairs.ensures in
    let p = err_from_is_err_and c.from_residual-in_err-from.result
    c.from_residual-in_err-from.ensures.1 in
    rw (p.1, p.2) (unsaid pairs c.in_err-from.field-0.0 (λ from most said.
    c.in_err-from.ensures.several said.from_text
    (ap (values_of_pairs (codes "from")) read ∙ said.from_once)))

pub returns-in_err-most : goal.returns-in_err-most
returns-in_err-most c =
    let pairs : Pairs = pairs_of c.args.query.now in
    let read : map pair_text c.deref-2.result.now ≡ pairs =
    ap (map pair_text) c.deref-2.ensures.value ∙ c.in_ok-pairs.ensures in
    let p = err_from_is_err_and c.from_residual-in_err-most.result
    c.from_residual-in_err-most.ensures.1 in
    rw (p.1, p.2) (unsaid pairs c.in_err-most.field-0.0 (λ from most said.
    c.in_err-most.ensures.several said.most_text
    (ap (values_of_pairs (codes "most")) read ∙ said.most_once)))

pub returns-in_err-are_all : goal.returns-in_err-are_all
returns-in_err-are_all c =
    let pairs : Pairs = pairs_of c.args.query.now in
    let first = found_in (codes "from") (codes "0") (map pair_text c.deref.result.now) pairs
    c.in_ok-from.from.now c.in_ok-from.places
    (ap (map pair_text) c.deref.ensures.value ∙ c.in_ok-pairs.ensures) c.in_ok-from.ensures.found in
    let second = found_in (codes "most") (codes "100") (map pair_text c.deref-2.result.now) pairs
    c.in_ok-most.most.now c.in_ok-most.sizes
    (ap (map pair_text) c.deref-2.ensures.value ∙ c.in_ok-pairs.ensures) c.in_ok-most.ensures.found
    in
    let items = c.deref-3.result.now in
    let read : map pair_text items ≡ pairs =
    ap (map pair_text) c.deref-3.ensures.value ∙ c.in_ok-pairs.ensures in
    let long : length items ≡ length pairs = sym (length-map items pair_text) ∙ ap length read in
    let p = err_from_is_err_and c.from_residual-in_err-are_all.result
    c.from_residual-in_err-are_all.ensures.1 in
    rw (p.1, p.2) (unsaid pairs c.in_err-are_all.field-0.0 (λ from most said.
    c.in_err-are_all.ensures.others (long ∙ counted pairs c.in_ok-from.from.now
    c.in_ok-most.most.now c.in_ok-from.places c.in_ok-most.sizes first second from most said)))

pub returns-in_err-place : goal.returns-in_err-place
returns-in_err-place c =
    let pairs : Pairs = pairs_of c.args.query.now in
    let first = found_in (codes "from") (codes "0") (map pair_text c.deref.result.now) pairs
    c.in_ok-from.from.now c.in_ok-from.places
    (ap (map pair_text) c.deref.ensures.value ∙ c.in_ok-pairs.ensures) c.in_ok-from.ensures.found in
    let p = err_from_is_err_and c.from_residual-in_err-place.result
    c.from_residual-in_err-place.ensures.1 in
    rw (p.1, p.2) (reads_err (SpellsNumber c.in_ok-from.from.now 0 greatest_long)
    (λ (x : ℕ × ℕ). IsLogQuery pairs x.0 x.1) c.in_err-place.field-0.0 c.in_err-place.ensures.read
    (λ x said. (
      x.0,
      subst (λ (word : List ℕ). SpellsNumber word 0 greatest_long x.0)
          (place_said pairs c.in_ok-from.from.now c.in_ok-from.places x.0 x.1 first said)
          said.from_spelled,
    )))

pub returns-in_err-size : goal.returns-in_err-size
returns-in_err-size c =
    let pairs : Pairs = pairs_of c.args.query.now in
    let second = found_in (codes "most") (codes "100") (map pair_text c.deref-2.result.now) pairs
    c.in_ok-most.most.now c.in_ok-most.sizes
    (ap (map pair_text) c.deref-2.ensures.value ∙ c.in_ok-pairs.ensures) c.in_ok-most.ensures.found
    in
    let p = err_from_is_err_and c.from_residual-in_err-size.result
    c.from_residual-in_err-size.ensures.1 in
    rw (p.1, p.2) (reads_err (SpellsNumber c.in_ok-most.most.now 1 most_told)
    (λ (x : ℕ × ℕ). IsLogQuery pairs x.0 x.1) c.in_err-size.field-0.0 c.in_err-size.ensures
    (λ x said. (
      x.1,
      subst (λ (word : List ℕ). SpellsNumber word 1 most_told x.1)
          (size_said pairs c.in_ok-most.most.now c.in_ok-most.sizes x.0 x.1 second said)
          said.most_spelled,
    )))

pub returns : goal.returns
returns c =
    let pairs : Pairs = pairs_of c.args.query.now in
    let first = found_in (codes "from") (codes "0") (map pair_text c.deref.result.now) pairs
    c.in_ok-from.from.now c.in_ok-from.places
    (ap (map pair_text) c.deref.ensures.value ∙ c.in_ok-pairs.ensures) c.in_ok-from.ensures.found in
    let second = found_in (codes "most") (codes "100") (map pair_text c.deref-2.result.now) pairs
    c.in_ok-most.most.now c.in_ok-most.sizes
    (ap (map pair_text) c.deref-2.ensures.value ∙ c.in_ok-pairs.ensures) c.in_ok-most.ensures.found
    in
    let items = c.deref-3.result.now in
    let read : map pair_text items ≡ pairs =
    ap (map pair_text) c.deref-3.ensures.value ∙ c.in_ok-pairs.ensures in
    let long : length items ≡ length pairs = sym (length-map items pair_text) ∙ ap length read in
    record {
      from_text = first.0;
      most_text = second.0;
      from_once = first.1;
      from_spelled = subst (λ (word : List ℕ). SpellsNumber word 0 greatest_long
          c.in_ok-place.place) first.2 c.in_ok-place.ensures.read;
      most_once = second.1;
      most_spelled = subst (λ (word : List ℕ). SpellsNumber word 1 most_told c.in_ok-size.size)
          second.2 c.in_ok-size.ensures;
      nothing_else = omega (arith, long, first.3, second.3, c.in_ok-are_all.ensures.all);
    }
