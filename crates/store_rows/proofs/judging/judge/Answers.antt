use Rattle.std.proofs.Common.{◌≡◌, ap, length, map, subst, sym, refl, ◌∙◌, arith}
use Rattle.std.proofs.lemmas.Result.{err_from_is_err_and}
use Rattle.store_model.specs.Contents.{Contents, meta_of}
use Rattle.request_book.specs.Run.{last_hour}
use Rattle.store_rows.specs.OwnTexts.{HavePublishedOwn}
use Rattle.store_rows.specs.RingRows.{NamedRings}
use Rattle.store_rows.specs.Stands.{RingContent}
use Rattle.store_rows.proofs.FoundRows.{stands, found_in}
use Rattle.store_rows.proofs.Opens.{meta_said, rings_at, rows_judge, same_meta, schema_of}
use Rattle.store_rows.proofs.Opens.{spelling_judges}
use Rattle.store_rows.proofs.Used.{some_bounds}
use Rattle.store_rows.proofs.judging.judge.Goals as goal

pub returns : goal.returns
returns c = λ t all.
    let found = c.in_ok-count.ensures t.requests all.book in
    let held : RingContent = record {
      state = c.in_ok-rings.rings;
      book = found.0;
      hour =
          c.in_ok-is_first.hour;
    } in
    let meta = ap (map meta_of) (sym c.deref.ensures.value) ∙ c.in_ok-is_first.ensures.0 in
    let are = stands c.in_ok-is_first.is_first c.args.rows c.in_ok-rings.rings c.in_ok-is_first.hour
    found.0 t all c.in_ok-rings.ensures.says meta found.2 in (
      held,
      record {
        holdable = record {
          rings = c.rings_are_proper.ensures;
          texts = c.in_ok-judge_texts.ensures;
          book = found.1;
          hour = found.3;
          small = omega arith;
        };
        rings = refl;
        count = sym found.4;
        hour = refl;
        callers = found.5;
        stands = found_in c.in_ok-is_first.is_first held t c.in_ok-migration.migration
            c.rings_are_proper.ensures are c.in_ok-migration.ensures;
      },
    )

pub returns-in_err-is_first : goal.returns-in_err-is_first
returns-in_err-is_first c = λ t all.
    let p = err_from_is_err_and c.from_residual.result c.from_residual.ensures.1 in
    rw (p.1, p.2) (spelling_judges _ t c.in_err-is_first.field-0.0 c.in_err-is_first.ensures
    (λ content stand. let f = schema_of t content stand in (
      (f.0, content.hour),
      (
        ap (map meta_of) c.deref.ensures.value ∙ meta_said content stand.holdable c.args.rows t all
            f.0 f.1,
        stand.holdable.small,
      ),
    )))

pub returns-in_err-rings : goal.returns-in_err-rings
returns-in_err-rings c = λ t all.
    let r = c.from_residual-in_err-rings in
    let p = err_from_is_err_and r.result r.ensures.1 in
    let meta = ap (map meta_of) (sym c.deref.ensures.value) ∙ c.in_ok-is_first.ensures.0 in
    rw (p.1, p.2) (rows_judge (λ (rings : NamedRings). rings) _ t c.in_err-rings.field-0.0
    c.in_err-rings.ensures.finds (λ content stand. (
      content.state,
      rings_at content t stand
          c.args.rows all c.in_ok-is_first.is_first c.in_ok-is_first.hour meta,
    )))

pub returns-in_err-count : goal.returns-in_err-count
returns-in_err-count c = λ t all.
    let r = c.from_residual-in_err-count in
    let p = err_from_is_err_and r.result r.ensures.1 in
    let meta = ap (map meta_of) (sym c.deref.ensures.value) ∙ c.in_ok-is_first.ensures.0 in
    rw (p.1, p.2) (spelling_judges _ t c.in_err-count.field-0.0 (c.in_err-count.ensures t.requests
    all.book) (λ content stand.
    let f = schema_of t content stand in
    let same = same_meta f.0 c.in_ok-is_first.is_first content.hour c.in_ok-is_first.hour
    (sym (meta_said content stand.holdable c.args.rows t all f.0 f.1) ∙ meta) in (
      (length content.book, (some_bounds content.book).0),
      (
        content.book,
        stand.holdable.book,
        ap (λ (x : Contents). x.requests) f.1,
        subst (λ h. last_hour h content.book ≡ h) same.1 stand.holdable.hour,
        refl,
        (some_bounds content.book).1,
      ),
    )))

pub returns-in_err-judge_texts : goal.returns-in_err-judge_texts
returns-in_err-judge_texts c = λ t all.
    let r = c.from_residual-in_err-judge_texts in
    let p = err_from_is_err_and r.result r.ensures.1 in
    let meta = ap (map meta_of) (sym c.deref.ensures.value) ∙ c.in_ok-is_first.ensures.0 in
    rw (p.1, p.2) (spelling_judges (λ (_ : Unit {0}). HavePublishedOwn c.in_ok-rings.rings) t
    c.in_err-judge_texts.field-0.0 c.in_err-judge_texts.ensures (λ content stand. (
      tt,
      subst
          HavePublishedOwn (c.in_ok-rings.ensures.finds content.state (rings_at content t stand
          c.args.rows all c.in_ok-is_first.is_first c.in_ok-is_first.hour meta)) stand.holdable.texts,
    )))
