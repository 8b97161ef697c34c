use Rattle.std.proofs.Common.{◌≡◌, ◌∙◌, ap, arith, rules}
use Rattle.std.specs.FinMap.{entries}
use Rattle.sqlite.specs.Effect.{Database}
use Rattle.sqlite.specs.Held.{state}
use Rattle.sqlite.specs.State.{HasCleanDisk}
use Rattle.sqlite.proofs.Callers.{unchanged_then}
use Rattle.store_tables.specs.Store.{begun_contents}
use Rattle.store_tables.specs.Texts.{AreDeviceTexts, AreRingTexts, AreSeatTexts}
use Rattle.store_tables.proofs.Inside.{quiet_on}
use Rattle.builder_store.proofs.Stops.{cause_after, reads_stop}
use Rattle.builder_store.proofs.TextsRead.{text_met}
use Rattle.builder_store.proofs.reading.read_first.Goals as goal

pub returns-in_err-rings-clause-no_text : goal.returns-in_err-rings-clause-no_text
returns-in_err-rings-clause-no_text g c =
    let old = state g.S.Store c.args.conn.now in
    let one = state g.S.Store c.all_rows.new.conn in
    let new = state g.S.Store c.all_rows-2.new.conn in
    let same : HasCleanDisk one → one.now ≡ old.now = λ clean.
    (c.in_ok-meta.ensures.reads.same clean).0.now_is in
    text_met AreRingTexts (λ m. entries m.rings) c.args.made old one new c.all_rows-2.result
    c.from_residual-in_err-rings.result c.in_err-rings.field-0.0 (λ m texts. texts.rings)
    (λ clean. same (omega (arith, c.all_rows-2.ensures.reads.survives.clean, clean)))
    (search rules) (search rules) c.all_rows-2.ensures.no_text

pub returns-in_err-devices-clause-no_text : goal.returns-in_err-devices-clause-no_text
returns-in_err-devices-clause-no_text g c =
    let old = state g.S.Store c.args.conn.now in
    let one = state g.S.Store c.all_rows.new.conn in
    let two = state g.S.Store c.all_rows-2.new.conn in
    let new = state g.S.Store c.all_rows-3.new.conn in
    let same : HasCleanDisk two → two.now ≡ old.now = λ clean.
    let early : HasCleanDisk one = omega (arith, c.all_rows-2.ensures.reads.survives.clean, clean)
    in
    (c.in_ok-rings.ensures.reads.same clean).0.now_is
    ∙ (c.in_ok-meta.ensures.reads.same early).0.now_is in
    text_met AreDeviceTexts (λ m. entries m.devices) c.args.made old two new c.all_rows-3.result
    c.from_residual-in_err-devices.result c.in_err-devices.field-0.0 (λ m texts. texts.devices)
    (λ clean. same (omega (arith, c.all_rows-3.ensures.reads.survives.clean, clean)))
    (search rules) (search rules) c.all_rows-3.ensures.no_text

pub returns-in_err-seats-clause-no_text : goal.returns-in_err-seats-clause-no_text
returns-in_err-seats-clause-no_text g c =
    let old = state g.S.Store c.args.conn.now in
    let one = state g.S.Store c.all_rows.new.conn in
    let two = state g.S.Store c.all_rows-2.new.conn in
    let three = state g.S.Store c.all_rows-3.new.conn in
    let new = state g.S.Store c.all_rows-4.new.conn in
    let same : HasCleanDisk three → three.now ≡ old.now = λ clean.
    let middle : HasCleanDisk two = omega (arith, c.all_rows-3.ensures.reads.survives.clean, clean)
    in
    let early : HasCleanDisk one = omega (arith, c.all_rows-2.ensures.reads.survives.clean, middle)
    in
    (c.in_ok-devices.ensures.reads.same clean).0.now_is
    ∙ (c.in_ok-rings.ensures.reads.same middle).0.now_is
    ∙ (c.in_ok-meta.ensures.reads.same early).0.now_is in
    text_met AreSeatTexts (λ m. entries m.seats) c.args.made old three new c.all_rows-4.result
    c.from_residual-in_err-seats.result c.in_err-seats.field-0.0 (λ m texts. texts.seats)
    (λ clean. same (omega (arith, c.all_rows-4.ensures.reads.survives.clean, clean)))
    (search rules) (search rules) c.all_rows-4.ensures.no_text

pub returns-in_err-rings-clause-reads : goal.returns-in_err-rings-clause-reads
returns-in_err-rings-clause-reads g c =
    let old = state g.S.Store c.args.conn.now in
    let mid = state g.S.Store c.all_rows.new.conn in
    let new = state g.S.Store c.all_rows-2.new.conn in
    reads_stop _ old new (quiet_on old mid new c.all_rows.ensures.reads.survives
    c.all_rows-2.ensures.reads.survives) c.from_residual-in_err-rings.result _
    c.from_residual-in_err-rings.ensures.0

pub returns-in_err-rings-clause-cause : goal.returns-in_err-rings-clause-cause
returns-in_err-rings-clause-cause g c =
    let old = state g.S.Store c.args.conn.now in
    let mid = state g.S.Store c.all_rows.new.conn in
    let new = state g.S.Store c.all_rows-2.new.conn in
    cause_after old mid new c.all_rows.ensures.reads.survives c.all_rows-2.ensures.reads.survives
    c.all_rows-2.result c.from_residual-in_err-rings.result c.in_err-rings.field-0.0
    c.in_err-rings.was (search rules) c.all_rows-2.ensures.cause

pub returns-in_err-devices-clause-reads : goal.returns-in_err-devices-clause-reads
returns-in_err-devices-clause-reads g c =
    let old = state g.S.Store c.args.conn.now in
    let mid = state g.S.Store c.all_rows-2.new.conn in
    let new = state g.S.Store c.all_rows-3.new.conn in
    reads_stop _ old new (quiet_on old mid new (quiet_on old (state g.S.Store c.all_rows.new.conn)
    (state g.S.Store c.all_rows-2.new.conn) c.all_rows.ensures.reads.survives
    c.all_rows-2.ensures.reads.survives) c.all_rows-3.ensures.reads.survives)
    c.from_residual-in_err-devices.result _ c.from_residual-in_err-devices.ensures.0

pub returns-in_err-devices-clause-cause : goal.returns-in_err-devices-clause-cause
returns-in_err-devices-clause-cause g c =
    let old = state g.S.Store c.args.conn.now in
    let mid = state g.S.Store c.all_rows-2.new.conn in
    let new = state g.S.Store c.all_rows-3.new.conn in
    cause_after old mid new (quiet_on old (state g.S.Store c.all_rows.new.conn) (state g.S.Store
    c.all_rows-2.new.conn) c.all_rows.ensures.reads.survives c.all_rows-2.ensures.reads.survives)
    c.all_rows-3.ensures.reads.survives c.all_rows-3.result c.from_residual-in_err-devices.result
    c.in_err-devices.field-0.0 c.in_err-devices.was (search rules) c.all_rows-3.ensures.cause

pub returns-in_err-seats-clause-reads : goal.returns-in_err-seats-clause-reads
returns-in_err-seats-clause-reads g c =
    let old = state g.S.Store c.args.conn.now in
    let mid = state g.S.Store c.all_rows-3.new.conn in
    let new = state g.S.Store c.all_rows-4.new.conn in
    reads_stop _ old new (quiet_on old mid new (quiet_on old (state g.S.Store
    c.all_rows-2.new.conn) (state g.S.Store c.all_rows-3.new.conn) (quiet_on old (state g.S.Store
    c.all_rows.new.conn) (state g.S.Store c.all_rows-2.new.conn) c.all_rows.ensures.reads.survives
    c.all_rows-2.ensures.reads.survives) c.all_rows-3.ensures.reads.survives)
    c.all_rows-4.ensures.reads.survives) c.from_residual-in_err-seats.result _
    c.from_residual-in_err-seats.ensures.0

pub returns-in_err-seats-clause-cause : goal.returns-in_err-seats-clause-cause
returns-in_err-seats-clause-cause g c =
    let old = state g.S.Store c.args.conn.now in
    let mid = state g.S.Store c.all_rows-3.new.conn in
    let new = state g.S.Store c.all_rows-4.new.conn in
    cause_after old mid new (quiet_on old (state g.S.Store c.all_rows-2.new.conn) (state g.S.Store
    c.all_rows-3.new.conn) (quiet_on old (state g.S.Store c.all_rows.new.conn) (state g.S.Store
    c.all_rows-2.new.conn) c.all_rows.ensures.reads.survives c.all_rows-2.ensures.reads.survives)
    c.all_rows-3.ensures.reads.survives) c.all_rows-4.ensures.reads.survives c.all_rows-4.result
    c.from_residual-in_err-seats.result c.in_err-seats.field-0.0 c.in_err-seats.was (search rules)
    c.all_rows-4.ensures.cause

pub returns-clause-reads : goal.returns-clause-reads
returns-clause-reads g c =
    let old = state g.S.Store c.args.conn.now in
    let one = state g.S.Store c.all_rows.new.conn in
    let two = state g.S.Store c.all_rows-2.new.conn in
    let three = state g.S.Store c.all_rows-3.new.conn in
    let new = state g.S.Store c.all_rows-4.new.conn in
    let to_three : HasCleanDisk new → HasCleanDisk three = λ clean. omega
    (arith, c.all_rows-4.ensures.reads.survives.clean, clean) in
    let to_two : HasCleanDisk new → HasCleanDisk two = λ clean. omega
    (arith, c.all_rows-3.ensures.reads.survives.clean, to_three clean) in
    let to_one : HasCleanDisk new → HasCleanDisk one = λ clean. omega
    (arith, c.all_rows-2.ensures.reads.survives.clean, to_two clean) in
    let first = λ (clean : HasCleanDisk new). c.in_ok-meta.ensures.reads.same (to_one clean) in
    let second = λ (clean : HasCleanDisk new). unchanged_then old one two (first clean)
    (c.in_ok-rings.ensures.reads.same (to_two clean)) in
    let third = λ (clean : HasCleanDisk new). unchanged_then old two three (second clean)
    (c.in_ok-devices.ensures.reads.same (to_three clean)) in
    record {
      answer = λ clean. (
        c.in_ok-meta.ensures.reads.answer (to_one clean),
        c.in_ok-rings.ensures.reads.answer (to_two clean) ∙ ap
            (λ (d : Database). entries (begun_contents c.args.made d.trees).rings)
            (first clean).0.now_is,
        c.in_ok-devices.ensures.reads.answer (to_three clean) ∙ ap
            (λ (d : Database). entries (begun_contents c.args.made d.trees).devices)
            (second clean).0.now_is,
        c.in_ok-seats.ensures.reads.answer clean ∙ ap
            (λ (d : Database). entries (begun_contents c.args.made d.trees).seats)
            (third clean).0.now_is,
      );
      same = λ clean. unchanged_then old three new (third clean)
          (c.in_ok-seats.ensures.reads.same clean);
      survives = quiet_on old three new (quiet_on old two three (quiet_on old one two
          c.all_rows.ensures.reads.survives c.all_rows-2.ensures.reads.survives)
          c.all_rows-3.ensures.reads.survives) c.all_rows-4.ensures.reads.survives;
    }
