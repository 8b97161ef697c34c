use Rattle.std.proofs.lemmas.Grind.{common_steps}
use Rattle.std.proofs.Common.{◌≡◌, List, ℕ, map, Bor, sym, ◌∙◌, arith}
use Rattle.std.specs.Prelude.{codes}
use Rattle.std.proofs.lemmas.List.{length-map}
use Rattle.std.proofs.lemmas.Result.{err_from_is_err_and}
use Rattle.ring_words.proofs.Spelled.{reads_err}
use Rattle.ring_text.specs.Inner.Reading.{IsHead}
use Rattle.ring_text.proofs.head.read_head.Goals as goal

pub returns-in_err-form_at : goal.returns-in_err-form_at
returns-in_err-form_at c =
    let p = err_from_is_err_and c.from_residual.result c.from_residual.ensures.1 in
    rw (p.1, p.2) (reads_err (λ (_ : Unit {0}). c.text_at.result.now ≡ codes "swift-ring-text 1")
    (IsHead (map (λ (l : Bor (List ℕ)). l.now) c.args.lines.now)) c.in_err-form_at.field-0.0
    c.in_err-form_at.ensures (λ h is. (tt, c.text_at.ensures ∙ is.form)))

pub returns : goal.returns
returns c = record {
  count = rw length-map (omega arith);
  form = sym c.text_at.ensures ∙ c.in_ok-form_at.ensures;
  name = rw c.text_at-2.ensures at c.in_ok-name_at.ensures;
  version = rw c.text_at-3.ensures at c.in_ok-version_at.ensures;
  power = rw c.text_at-4.ensures at c.in_ok-power_at.ensures;
  replicas = rw c.text_at-5.ensures at c.in_ok-replicas_at.ensures;
  devices = rw c.text_at-6.ensures at c.in_ok-device_count_at.ensures;
}

pub returns-then-lines-ne-FIRST_LINES : goal.returns-then-lines-ne-FIRST_LINES
returns-then-lines-ne-FIRST_LINES c = grind (arith, common_steps)
