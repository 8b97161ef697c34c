use Rattle.std.proofs.Common.{◌≡◌, ◌∙◌, ap, subst, sym}
use Rattle.std.specs.Rc.{rc_str_bytes}
use Rattle.ring_text.specs.Snapshot.{SnapshotRecord}
use Rattle.ring_text.specs.Spelling.{Spells}
use Rattle.store_rows.proofs.BookOpens.{refuted}
use Rattle.store_rows.proofs.texts.judge_text.Goals as goal

pub returns-then-is_of : goal.returns-then-is_of
returns-then-is_of c =
    let told = c.in_ok-told.told in
    let is = c.is_of.ensures.0 c.if-is_of.true in
    record {
      snapshot = told;
      spelled = subst (λ bytes. Spells bytes told)
          (c.as_bytes.ensures.value ∙ c.deref.ensures.value) c.in_ok-told.ensures;
      named = is.0;
      taken = is.1;
    }

pub returns : goal.returns
returns c = λ _ own.
    let told = c.in_ok-told.told in
    let spelled = subst (λ bytes. Spells bytes told)
    (c.as_bytes.ensures.value ∙ c.deref.ensures.value) c.in_ok-told.ensures in
    let same : told ≡ own.snapshot = c.one_spelling.ensures.one_snapshot
    (rc_str_bytes c.args.text.now) told own.snapshot spelled own.spelled in
    refuted _ _ c.if-is_of.false c.is_of.ensures (
      ap (λ (s : SnapshotRecord). s.name) same ∙ own.named,
      ap (λ (s : SnapshotRecord). s.version) same ∙ own.taken,
    )
