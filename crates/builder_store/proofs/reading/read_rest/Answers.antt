use Rattle.std.proofs.Common.{◌≡◌, ◌∙◌, ap, arith, rules, subst}
use Rattle.std.specs.FinMap.{entries}
use Rattle.sqlite.specs.Effect.{Database}
use Rattle.sqlite.specs.Held.{state}
use Rattle.sqlite.specs.State.{HasCleanDisk}
use Rattle.sqlite.proofs.Callers.{unchanged_then}
use Rattle.store_rows.specs.Judging.{SaysBook}
use Rattle.store_tables.specs.Store.{begun_contents}
use Rattle.store_tables.specs.Texts.{ArePartTexts, ArePublishedTexts, AreRequestTexts}
use Rattle.store_tables.proofs.Inside.{quiet_on}
use Rattle.builder_store.proofs.Stops.{cause_after, reads_stop}
use Rattle.builder_store.proofs.TextsRead.{text_met}
use Rattle.builder_store.proofs.reading.read_rest.Goals as goal

pub returns-in_err-published-clause-no_text : goal.returns-in_err-published-clause-no_text
returns-in_err-published-clause-no_text g c =
    let old = state g.S.Store c.args.conn.now in
    let one = state g.S.Store c.all_rows.new.conn in
    let new = state g.S.Store c.all_rows-2.new.conn in
    let same : HasCleanDisk one → one.now ≡ old.now = λ clean.
    (c.in_ok-moved.ensures.reads.same clean).0.now_is in
    text_met ArePublishedTexts (λ m. entries m.published) c.args.made old one new c.all_rows-2.result
    c.from_residual-in_err-published.result c.in_err-published.field-0.0 (λ m texts. texts.published)
    (λ clean. same (omega (arith, c.all_rows-2.ensures.reads.survives.clean, clean)))
    (search rules) (search rules) c.all_rows-2.ensures.no_text

pub returns-in_err-book-clause-no_text : goal.returns-in_err-book-clause-no_text
returns-in_err-book-clause-no_text g c =
    let old = state g.S.Store c.args.conn.now in
    let one = state g.S.Store c.all_rows.new.conn in
    let two = state g.S.Store c.all_rows-2.new.conn in
    let new = state g.S.Store c.read_requests.new.conn in
    let same : HasCleanDisk two → two.now ≡ old.now = λ clean.
    let early : HasCleanDisk one = omega (arith, c.all_rows-2.ensures.reads.survives.clean, clean)
    in
    (c.in_ok-published.ensures.reads.same clean).0.now_is
    ∙ (c.in_ok-moved.ensures.reads.same early).0.now_is in
    text_met AreRequestTexts (λ m. entries m.requests) c.args.made old two new c.read_requests.result
    c.from_residual-in_err-book.result c.in_err-book.field-0.0 (λ m texts. texts.requests)
    (λ clean. same (omega (arith, c.read_requests.ensures.reads.survives.clean, clean)))
    (search rules) (search rules) c.read_requests.ensures.no_text

pub returns-in_err-parts-clause-no_text : goal.returns-in_err-parts-clause-no_text
returns-in_err-parts-clause-no_text g c =
    let old = state g.S.Store c.args.conn.now in
    let one = state g.S.Store c.all_rows.new.conn in
    let two = state g.S.Store c.all_rows-2.new.conn in
    let three = state g.S.Store c.read_requests.new.conn in
    let new = state g.S.Store c.all_rows-3.new.conn in
    let same : HasCleanDisk three → three.now ≡ old.now = λ clean.
    let middle : HasCleanDisk two = omega (arith, c.read_requests.ensures.reads.survives.clean, clean)
    in
    let early : HasCleanDisk one = omega (arith, c.all_rows-2.ensures.reads.survives.clean, middle)
    in
    (c.in_ok-book.ensures.reads.same clean).0.now_is
    ∙ (c.in_ok-published.ensures.reads.same middle).0.now_is
    ∙ (c.in_ok-moved.ensures.reads.same early).0.now_is in
    text_met ArePartTexts (λ m. entries m.parts) c.args.made old three new c.all_rows-3.result
    c.from_residual-in_err-parts.result c.in_err-parts.field-0.0 (λ m texts. texts.parts)
    (λ clean. same (omega (arith, c.all_rows-3.ensures.reads.survives.clean, clean)))
    (search rules) (search rules) c.all_rows-3.ensures.no_text

pub returns-in_err-published-clause-reads : goal.returns-in_err-published-clause-reads
returns-in_err-published-clause-reads g c =
    let old = state g.S.Store c.args.conn.now in
    let mid = state g.S.Store c.all_rows.new.conn in
    let new = state g.S.Store c.all_rows-2.new.conn in
    reads_stop _ old new (quiet_on old mid new c.all_rows.ensures.reads.survives
    c.all_rows-2.ensures.reads.survives) c.from_residual-in_err-published.result _
    c.from_residual-in_err-published.ensures.0

pub returns-in_err-published-clause-cause : goal.returns-in_err-published-clause-cause
returns-in_err-published-clause-cause g c =
    let old = state g.S.Store c.args.conn.now in
    let mid = state g.S.Store c.all_rows.new.conn in
    let new = state g.S.Store c.all_rows-2.new.conn in
    cause_after old mid new c.all_rows.ensures.reads.survives c.all_rows-2.ensures.reads.survives
    c.all_rows-2.result c.from_residual-in_err-published.result c.in_err-published.field-0.0
    c.in_err-published.was (search rules) c.all_rows-2.ensures.cause

pub returns-in_err-book-clause-reads : goal.returns-in_err-book-clause-reads
returns-in_err-book-clause-reads g c =
    let old = state g.S.Store c.args.conn.now in
    let mid = state g.S.Store c.all_rows-2.new.conn in
    let new = state g.S.Store c.read_requests.new.conn in
    reads_stop _ old new (quiet_on old mid new (quiet_on old (state g.S.Store c.all_rows.new.conn)
    (state g.S.Store c.all_rows-2.new.conn) c.all_rows.ensures.reads.survives
    c.all_rows-2.ensures.reads.survives) c.read_requests.ensures.reads.survives)
    c.from_residual-in_err-book.result _ c.from_residual-in_err-book.ensures.0

pub returns-in_err-book-clause-cause : goal.returns-in_err-book-clause-cause
returns-in_err-book-clause-cause g c =
    let old = state g.S.Store c.args.conn.now in
    let mid = state g.S.Store c.all_rows-2.new.conn in
    let new = state g.S.Store c.read_requests.new.conn in
    cause_after old mid new (quiet_on old (state g.S.Store c.all_rows.new.conn) (state g.S.Store
    c.all_rows-2.new.conn) c.all_rows.ensures.reads.survives c.all_rows-2.ensures.reads.survives)
    c.read_requests.ensures.reads.survives c.read_requests.result
    c.from_residual-in_err-book.result c.in_err-book.field-0.0 c.in_err-book.was (search rules)
    c.read_requests.ensures.cause

pub returns-in_err-parts-clause-reads : goal.returns-in_err-parts-clause-reads
returns-in_err-parts-clause-reads g c =
    let old = state g.S.Store c.args.conn.now in
    let mid = state g.S.Store c.read_requests.new.conn in
    let new = state g.S.Store c.all_rows-3.new.conn in
    reads_stop _ old new (quiet_on old mid new (quiet_on old (state g.S.Store
    c.all_rows-2.new.conn) (state g.S.Store c.read_requests.new.conn) (quiet_on old (state
    g.S.Store c.all_rows.new.conn) (state g.S.Store c.all_rows-2.new.conn)
    c.all_rows.ensures.reads.survives c.all_rows-2.ensures.reads.survives)
    c.read_requests.ensures.reads.survives) c.all_rows-3.ensures.reads.survives)
    c.from_residual-in_err-parts.result _ c.from_residual-in_err-parts.ensures.0

pub returns-in_err-parts-clause-cause : goal.returns-in_err-parts-clause-cause
returns-in_err-parts-clause-cause g c =
    let old = state g.S.Store c.args.conn.now in
    let mid = state g.S.Store c.read_requests.new.conn in
    let new = state g.S.Store c.all_rows-3.new.conn in
    cause_after old mid new (quiet_on old (state g.S.Store c.all_rows-2.new.conn) (state g.S.Store
    c.read_requests.new.conn) (quiet_on old (state g.S.Store c.all_rows.new.conn) (state g.S.Store
    c.all_rows-2.new.conn) c.all_rows.ensures.reads.survives c.all_rows-2.ensures.reads.survives)
    c.read_requests.ensures.reads.survives) c.all_rows-3.ensures.reads.survives
    c.all_rows-3.result c.from_residual-in_err-parts.result c.in_err-parts.field-0.0
    c.in_err-parts.was (search rules) c.all_rows-3.ensures.cause

pub returns-clause-reads : goal.returns-clause-reads
returns-clause-reads g c =
    let old = state g.S.Store c.args.conn.now in
    let one = state g.S.Store c.all_rows.new.conn in
    let two = state g.S.Store c.all_rows-2.new.conn in
    let three = state g.S.Store c.read_requests.new.conn in
    let new = state g.S.Store c.all_rows-3.new.conn in
    let to_three : HasCleanDisk new → HasCleanDisk three = λ clean. omega
    (arith, c.all_rows-3.ensures.reads.survives.clean, clean) in
    let to_two : HasCleanDisk new → HasCleanDisk two = λ clean. omega
    (arith, c.read_requests.ensures.reads.survives.clean, to_three clean) in
    let to_one : HasCleanDisk new → HasCleanDisk one = λ clean. omega
    (arith, c.all_rows-2.ensures.reads.survives.clean, to_two clean) in
    let first = λ (clean : HasCleanDisk new). c.in_ok-moved.ensures.reads.same (to_one clean) in
    let second = λ (clean : HasCleanDisk new). unchanged_then old one two (first clean)
    (c.in_ok-published.ensures.reads.same (to_two clean)) in
    let third = λ (clean : HasCleanDisk new). unchanged_then old two three (second clean)
    (c.in_ok-book.ensures.reads.same (to_three clean)) in
    record {
      answer = λ clean. (
        c.in_ok-moved.ensures.reads.answer (to_one clean),
        c.in_ok-published.ensures.reads.answer (to_two clean) ∙ ap
            (λ (d : Database). entries (begun_contents c.args.made d.trees).published)
            (first clean).0.now_is,
        subst (λ (d : Database). SaysBook (begun_contents c.args.made d.trees).requests
            c.in_ok-book.book) (second clean).0.now_is
            (c.in_ok-book.ensures.reads.answer (to_three clean)),
        c.in_ok-parts.ensures.reads.answer clean ∙ ap
            (λ (d : Database). entries (begun_contents c.args.made d.trees).parts)
            (third clean).0.now_is,
      );
      same = λ clean. unchanged_then old three new (third clean)
          (c.in_ok-parts.ensures.reads.same clean);
      survives = quiet_on old three new (quiet_on old two three (quiet_on old one two
          c.all_rows.ensures.reads.survives c.all_rows-2.ensures.reads.survives)
          c.read_requests.ensures.reads.survives) c.all_rows-3.ensures.reads.survives;
    }
