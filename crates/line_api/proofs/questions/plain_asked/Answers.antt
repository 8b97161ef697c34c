use Rattle.std.proofs.lemmas.Grind.{common_steps}
use Rattle.std.proofs.Common.{arith}
use Rattle.std.proofs.lemmas.Str.Pattern.{split_once_first}
use Rattle.ring_words.proofs.Decimals.{IsCut, Splits, cut_of}
use Rattle.line_api.proofs.Asking.{has_space, is_word}
use Rattle.line_api.proofs.questions.plain_asked.Goals as goal

pub returns-in_err-word-clause-none : goal.returns-in_err-word-clause-none
returns-in_err-word-clause-none c =
    let split : Splits 32 c.args.text.now c.split_once.result = split_once_first 32 c.args.text.now
    c.split_once.result c.split_once.ensures.cases (omega arith) in
    rw c.from_residual.ensures (has_space c.args.text.now c.split_once.result split
    c.in_err-word.was)

pub returns-in_err-of_word-clause-none : goal.returns-in_err-of_word-clause-none
returns-in_err-of_word-clause-none c =
    let split : Splits 32 c.args.text.now c.split_once.result = split_once_first 32 c.args.text.now
    c.split_once.result c.split_once.ensures.cases (omega arith) in
    let cut : IsCut 32 c.args.text.now c.in_ok-word.word.now c.in_ok-word.rest.now =
    cut_of 32 c.args.text.now c.split_once.result _ split c.in_ok-word.was in
    rw c.from_residual-in_err-of_word.ensures (λ plain rest is. c.in_err-of_word.ensures.none plain
    (is_word c.args.text.now c.in_ok-word.word.now c.in_ok-word.rest.now cut plain rest is))

pub returns-clause-found : goal.returns-clause-found
returns-clause-found c = grind (arith, common_steps)
