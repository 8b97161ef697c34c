use Rattle.std.proofs.Common.{ℕ, codes}
use Rattle.std.proofs.lemmas.Result.{err_from_is_err_and}
use Rattle.serde_json.specs.Find.{get}
use Rattle.serde_json.specs.View.{view}
use Rattle.ring_words.specs.Limits.{greatest_long}
use Rattle.ring_words.proofs.Spelled.{reads_err}
use Rattle.ring_messages.specs.Inner.Says.{HasFields}
use Rattle.ring_messages.specs.Reads.{IsNumber}
use Rattle.ring_messages.specs.Replies.{figures}
use Rattle.ring_messages.proofs.words.figures.Goals as goal

pub returns-in_err-balance : goal.returns-in_err-balance
returns-in_err-balance c =
    let d = view c.args.value.now in
    let p = err_from_is_err_and c.from_residual.result c.from_residual.ensures.1 in
    rw (p.1, p.2)
    (reads_err (IsNumber (get (codes "balance") d) 0 greatest_long)
    (λ (f : ℕ × ℕ × ℕ). HasFields d (figures f.0 f.1 f.2)) c.in_err-balance.field-0.0
    c.in_err-balance.ensures (λ f h. (f.0, h.0)))

pub returns-in_err-changed : goal.returns-in_err-changed
returns-in_err-changed c =
    let d = view c.args.value.now in
    let r = c.from_residual-in_err-changed in
    let p = err_from_is_err_and r.result r.ensures.1 in
    rw (p.1, p.2)
    (reads_err (IsNumber (get (codes "changed") d) 0 greatest_long)
    (λ (f : ℕ × ℕ × ℕ). HasFields d (figures f.0 f.1 f.2)) c.in_err-changed.field-0.0
    c.in_err-changed.ensures (λ f h. (f.1, h.1.0)))

pub returns-in_err-dispersion : goal.returns-in_err-dispersion
returns-in_err-dispersion c =
    let d = view c.args.value.now in
    let r = c.from_residual-in_err-dispersion in
    let p = err_from_is_err_and r.result r.ensures.1 in
    rw (p.1, p.2)
    (reads_err (IsNumber (get (codes "dispersion") d) 0 greatest_long)
    (λ (f : ℕ × ℕ × ℕ). HasFields d (figures f.0 f.1 f.2)) c.in_err-dispersion.field-0.0
    c.in_err-dispersion.ensures (λ f h. (f.2, h.1.1.0)))
