use Rattle.std.proofs.Common.{arith}
use Rattle.std.proofs.lemmas.Grind.{common_steps}
use Rattle.ring_words.proofs.decimal.parse_two_digits.Goals as goal

pub returns-then-is_ascii_digit-2-clause-found : goal.returns-then-is_ascii_digit-2-clause-found
returns-then-is_ascii_digit-2-clause-found c = grind (arith, common_steps)
