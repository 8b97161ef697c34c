use Rattle.std.proofs.Common.{◌≡◌, ◌++◌, ◌∷◌, ℕ, List, ap, ◌∙◌, arith}
use Rattle.std.proofs.lemmas.Option.{MatchOption-at_some}
use Rattle.std.proofs.lemmas.Str.Pattern.{split_once_first, split_parts}
use Rattle.ring_words.proofs.Decimals.{Splits, IsCut, no_separator, cut_of, no_number}
use Rattle.ring_words.proofs.decimal.parse_decimal_up_to.Goals as goal

pub returns-in_err-number-clause-none : goal.returns-in_err-number-clause-none
returns-in_err-number-clause-none c =
    let s = c.args.separator in
    let split : Splits s c.args.text.now c.split_once.result = split_once_first s c.args.text.now
    c.split_once.result c.split_once.ensures.cases (omega arith) in
    rw c.from_residual.ensures (no_separator s c.args.text.now c.split_once.result c.requires split
    c.in_err-number.was)

pub returns-in_err-parse_decimal-clause-none : goal.returns-in_err-parse_decimal-clause-none
returns-in_err-parse_decimal-clause-none c =
    let s = c.args.separator in
    let split : Splits s c.args.text.now c.split_once.result = split_once_first s c.args.text.now
    c.split_once.result c.split_once.ensures.cases (omega arith) in
    let cut : IsCut s c.args.text.now c.in_ok-number.number.now c.in_ok-number.rest.now =
    cut_of s c.args.text.now c.split_once.result _ split c.in_ok-number.was in
    rw c.from_residual-in_err-parse_decimal.ensures (no_number s c.args.text.now
    c.in_ok-number.number.now c.in_ok-number.rest.now c.requires cut
    c.in_err-parse_decimal.ensures.none)

pub returns-clause-found : goal.returns-clause-found
returns-clause-found c =
    let s = c.args.separator in
    let rest = c.in_ok-number.rest.now in
    let parts : c.args.text.now ≡ c.in_ok-number.number.now ++ s ∷ rest = (MatchOption-at_some _ _ _
    c.in_ok-number.was (split_parts s c.args.text.now c.split_once.result c.split_once.ensures.cases
    (omega arith))).0 in
    let found = c.in_ok-parse_decimal.ensures.found in
    (found.0, parts ∙ ap (λ (x : List ℕ). x ++ s ∷ rest) found.1)
