use Rattle.std.proofs.Common.{◌≡◌, ◌∙◌, ℕ, List, Bor, None, Some, ap, arith, codes, length, map}
use Rattle.std.proofs.Common.{subst, sym}
use Rattle.std.proofs.lemmas.List.{length-map}
use Rattle.ring_words.specs.Limits.{greatest_long}
use Rattle.ring_words.specs.Spelling.{SpellsNumber}
use Rattle.http_routes.specs.Inner.Pairs.{pair_text}
use Rattle.http_routes.specs.Queries.{pairs_of, values_of_pairs}
use Rattle.http_routes.proofs.query.read_seed.Goals as goal
use Rattle.http_routes.proofs.query.read_seed.Goals.{in-Missing, in-One-find}

pub returns : goal.returns
returns c =
    let pairs = pairs_of c.args.query.now in
    let items = c.in_ok-pairs.pairs.items in
    let read : map pair_text items ≡ pairs = c.in_ok-pairs.ensures in
    let first : map pair_text c.deref.result.now ≡ pairs =
    ap (map pair_text) c.deref.ensures.value ∙ read in
    let second : map pair_text c.deref-2.result.now ≡ pairs =
    ap (map pair_text) c.deref-2.ensures.value ∙ read in
    let count : length pairs ≡ length items = sym (ap length read) ∙ length-map items pair_text in
    let seed_once = ap (values_of_pairs (codes "seed")) (sym first) ∙ c.in-One.ensures in
    let hours = ap (values_of_pairs (codes "hour")) (sym second) in
    elim c.match-find-2.branch [
      | in-Missing w ↦
          record {
            seed_text = c.in-One.seed.now;
            hour_text = None;
            seed_once = seed_once;
            seed_spelled = c.in_ok-seed.ensures.read;
            hour_once = hours ∙ w.in-Missing.ensures;
            hour_spelled = subst (λ (word : Bor (List ℕ)). SpellsNumber word.now 0 greatest_long
                c.in_ok-hour.hour) w.hour-is c.in_ok-hour.ensures.read;
            nothing_else = omega (arith, count, w.known-is);
          }
      | in-One-find w ↦
          record {
            seed_text = c.in-One.seed.now;
            hour_text = Some w.in-One-find.hour.now;
            seed_once = seed_once;
            seed_spelled = c.in_ok-seed.ensures.read;
            hour_once = hours ∙ w.in-One-find.ensures;
            hour_spelled = subst (λ (word : Bor (List ℕ)). SpellsNumber word.now 0 greatest_long
                c.in_ok-hour.hour) w.hour-is c.in_ok-hour.ensures.read;
            nothing_else = omega (arith, count, w.known-is);
          }
    ]
