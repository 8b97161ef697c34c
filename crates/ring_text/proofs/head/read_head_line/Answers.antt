use Rattle.std.proofs.Common.{◌≡◌, sym, ap, ◌∙◌}
use Rattle.std.proofs.lemmas.Result.{err_from_is_err_and}
use Rattle.ring_words.specs.declared.spelling.SpellingFault.TheVariants.{Bad}
use Rattle.ring_text.specs.Inner.Reading.{text_at}
use Rattle.ring_text.proofs.head.read_head_line.Goals as goal

pub returns-in_err-form_at-in-0 : goal.returns-in_err-form_at-in-0
returns-in_err-form_at-in-0 c = λ bad h.
    let p = err_from_is_err_and c.from_residual.result c.from_residual.ensures.1 in
    let e : c.in_err-form_at-in-0.field-0.0 ≡ Bad = cc (p.1, p.2, bad) in
    (rw e at c.in_err-form_at-in-0.ensures) tt (sym h.here ∙ ap (text_at h.texts) c.in-0.is ∙
    h.are.form)
