use Rattle.std.proofs.Common.{rules, ◌≡◌, ◌∙◌, ◌++◌, List, ℕ, ap, codes, sym}
use Rattle.line_api.proofs.Asking.{line_reads, question_text}
use Rattle.line_api.proofs.questions.read_question.Goals as goal

pub returns-in_default-from_utf8 : goal.returns-in_default-from_utf8
returns-in_default-from_utf8 c =
    let is : c.args.line.now ≡ codes "? " ++ c.in-Some.text.now = search rules in
    λ question asks. c.in_default-from_utf8.ensures.cases.0
    (question_text c.args.line.now c.in-Some.text.now question is asks)

pub returns : goal.returns
returns c =
    let is : c.args.line.now ≡ codes "? " ++ c.in-Some.text.now = search rules in
    line_reads c.args.line.now c.in-Ok.words.now c.read_inquiry.result
    (is ∙ ap (λ (t : List ℕ). codes "? " ++ t) (sym c.in-Ok.ensures.cases.0)) c.read_inquiry.ensures
