use Rattle.std.proofs.Common.{◌≡◌, ◌<◌, ◌≤◌, ◌^◌, [], ◌∷◌, decimal, refl, arith}
use Rattle.std.proofs.lemmas.Fmt.{decimal_step, decimal_digit}
use Rattle.serde_json.proofs.OnLiterals.{serde_json_on_literals}
use Rattle.ring_messages.proofs.told.no_memory.Goals as goal

-- the digits of 23
rule : decimal 23 ≡ 50 ∷ 51 ∷ []
rule =
    let long : 10 ≤ 23 = omega arith in
    let small : 23 < 2 ^ 64 = omega arith in
    let tens : 2 < 10 = omega arith in
    rw (decimal_step 23 long small, decimal_digit 2 tens) refl

pub returns : goal.returns
unfolding serde_json_on_literals
returns c = rw rule refl
