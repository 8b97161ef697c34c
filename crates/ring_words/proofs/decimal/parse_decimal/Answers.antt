use Rattle.std.proofs.Common.{sym, ◌∙◌}
use Rattle.ring_words.proofs.Decimals.{decimal_found, decimal_none, not_decimal}
use Rattle.ring_words.proofs.decimal.parse_decimal.Goals as goal

pub returns-then-not-is_decimal-clause-none : goal.returns-then-not-is_decimal-clause-none
returns-then-not-is_decimal-clause-none c = not_decimal c.args.text.now (sym c.is_decimal.ensures ∙
    c.if-not-is_decimal.true)

pub returns-clause-found : goal.returns-clause-found
returns-clause-found c = rw c.ok.ensures.value (decimal_found c.args.text.now c.parse.result
    (sym c.is_decimal.ensures ∙ c.if-not-is_decimal.false) c.parse.ensures.value.0)

pub returns-clause-none : goal.returns-clause-none
returns-clause-none c = rw c.ok.ensures.value (decimal_none c.args.text.now c.parse.result
    c.parse.ensures.value.0)
