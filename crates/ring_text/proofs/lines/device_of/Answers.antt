use Rattle.std.proofs.lemmas.Grind.{common_steps}
use Rattle.std.proofs.Common.{arith, rules, Bor, List, ℕ}
use Rattle.std.proofs.lemmas.List.{length-map}
use Rattle.ring_text.proofs.lines.device_of.Goals as goal

pub returns : goal.returns
returns c =
    let long = length-map c.args.words.now (λ (word : Bor (List ℕ)). word.now) in
    record {
      count = omega (arith, long);
      id = rw c.text_at.ensures at c.in_ok-id.ensures.read;
      region = rw c.text_at-2.ensures at c.in_ok-region.ensures.read;
      zone = rw c.text_at-3.ensures at c.in_ok-zone.ensures.read;
      address = rw c.text_at-4.ensures at c.in_ok-address.ensures.read;
      port = rw c.text_at-5.ensures at c.in_ok-port.ensures.read;
      weight = rw c.text_at-6.ensures at c.in_ok-weight.ensures.read;
      state = rw c.text_at-7.ensures at c.in_ok-removed.ensures.read;
      name = rw c.text_at-8.ensures at c.in_ok-name.ensures.read;
    }

pub returns-in_err-weight : goal.returns-in_err-weight
returns-in_err-weight c = search rules

pub returns-then-words-ne8 : goal.returns-then-words-ne8
returns-then-words-ne8 c = grind (arith, common_steps)
