use Rattle.std.proofs.Common.{◌≡◌, ℕ, ◌<◌, ◌≤◌, ◌+◌, ◌*◌, length, true, get_or, sym, ◌∙◌, ap, arith}
use Rattle.std.proofs.Common.{refl}
use Rattle.std.proofs.lemmas.List.Folds.{list_all_more}
use Rattle.std.specs.Char.{is_ascii_digit, digit_value}
use Rattle.http_messages.proofs.NumberLemmas.{value_more, digit_is, digit_small, power_more}
use Rattle.http_messages.proofs.request.number.Goals as goal

pub loop-digit-preserved : goal.loop-digit-preserved
loop-digit-preserved c =
    let xs = c.args.digits.now in
    let i = c.loop-digit.digit-index in
    let digit : is_ascii_digit (get_or xs i 0) ≡ true = sym c.if-not-is_ascii_digit.ensures.value in
    let lt : i < length xs = omega arith in
    let d = digit_is (get_or xs i 0) digit in
    let last : c.from.result ≤ 9 = rw c.from.ensures (digit_small (get_or xs i 0) digit) in
    record {
      value = sym (value_more xs i lt ∙ ap (λ (n : ℕ). n * 10 + digit_value (get_or xs i 0))
          (sym c.loop-digit.invariant.value) ∙ ap (λ (n : ℕ). c.loop-digit.value * 10 + n)
          (d ∙ sym c.from.ensures));
      small = power_more c.loop-digit.value c.from.result i c.loop-digit.invariant.small last;
      digits = list_all_more is_ascii_digit xs i 0 lt ∙ rw (c.loop-digit.invariant.digits, digit)
          refl;
    }
