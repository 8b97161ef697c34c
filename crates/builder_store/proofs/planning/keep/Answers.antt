use Rattle.std.proofs.Common.{◌==◌, arith, refl, subst, sym}
use Rattle.std.proofs.lemmas.Result.{on_ok_weaker}
use Rattle.std.proofs.lemmas.Bool.Decides.{Decides-eqb}
use Rattle.sqlite.specs.Held.{state}
use Rattle.sqlite.proofs.StateLemmas.{survives_weaker}
use Rattle.builder_store.proofs.Gained.{gains_in}
use Rattle.builder_store.proofs.Opens.{survives_same}
use Rattle.store_rows.specs.Callers.{Bounds}
use Rattle.builder_store.proofs.Bounding.{on_ok_always}
use Rattle.store_rows.proofs.Used.{bounds_more, bounds_still}
use Rattle.builder_store.proofs.planning.keep.Goals as goal

pub returns-clause-done : goal.returns-clause-done
returns-clause-done g c = λ clean.
    on_ok_weaker c.write.result
    (gains_in c.one_content.ensures (state g.S.Store c.args.conn.now).committed.trees c.args.old.now
    c.args.new.now c.args.count c.args.limit c.args.hour c.args.entry.now
    (c.args.entry.now.hour == c.args.hour) ((Decides-eqb c.args.entry.now.hour c.args.hour).0)
    c.in-Ok.plan.change.0 c.rows.result.now c.in-Ok.plan.rows.request c.in-Ok.plan.rows.meta
    c.rows.ensures c.in-Ok.ensures (state g.S.Store c.write.new.conn).committed.trees)
    (c.write.ensures.done clean)

pub returns-clause-survives : goal.returns-clause-survives
returns-clause-survives g c =
    survives_weaker (state g.S.Store c.args.conn.now) (state g.S.Store c.write.new.conn) _ _
    (λ clean. gains_in c.one_content.ensures (state g.S.Store c.args.conn.now).committed.trees
    c.args.old.now c.args.new.now c.args.count c.args.limit c.args.hour c.args.entry.now
    (c.args.entry.now.hour == c.args.hour) ((Decides-eqb c.args.entry.now.hour c.args.hour).0)
    c.in-Ok.plan.change.0 c.rows.result.now c.in-Ok.plan.rows.request c.in-Ok.plan.rows.meta
    c.rows.ensures c.in-Ok.ensures)
    c.write.ensures.survives

pub returns-then-count-limit-clause-survives : goal.returns-then-count-limit-clause-survives
returns-then-count-limit-clause-survives g c = survives_same (state g.S.Store c.args.conn.now) _

pub returns-in_default-clause-survives : goal.returns-in_default-clause-survives
returns-in_default-clause-survives g c = survives_same (state g.S.Store c.args.conn.now) _

pub returns-then-count-limit-clause-tables : goal.returns-then-count-limit-clause-tables
returns-then-count-limit-clause-tables g c = λ clean other. absurd (other refl)

pub returns-in_default-clause-tables : goal.returns-in_default-clause-tables
returns-in_default-clause-tables g c = λ clean _. c.requires.tables clean

pub planned-requires : goal.planned-requires
planned-requires g c = omega (arith, c.if-count-limit.false, c.requires.small)

pub returns-clause-tables : goal.returns-clause-tables
returns-clause-tables g c = c.write.ensures.tables

pub returns-clause-none : goal.returns-clause-none
returns-clause-none g c = c.write.ensures.none

pub returns-clause-noted : goal.returns-clause-noted
returns-clause-noted g c = on_ok_always c.write.result _ (λ book. bounds_more c.args.callers.now
    c.note.new.self book c.args.entry.now c.in_ok-note.ensures.ok)

pub returns-clause-bounds : goal.returns-clause-bounds
returns-clause-bounds g c = λ book. bounds_still c.args.callers.now c.note.new.self book
    c.args.entry.now.key c.in_ok-note.ensures.ok

pub returns-in_default-clause-bounds : goal.returns-in_default-clause-bounds
returns-in_default-clause-bounds g c = λ book. bounds_still c.args.callers.now c.note.new.self book
    c.args.entry.now.key c.in_ok-note.ensures.ok

pub returns-in_err-note-clause-bounds : goal.returns-in_err-note-clause-bounds
returns-in_err-note-clause-bounds g c = λ book bounds. subst (λ used. Bounds used book)
    (sym c.in_err-note.ensures.err) bounds

pub returns-in_err-note-clause-tables : goal.returns-in_err-note-clause-tables
returns-in_err-note-clause-tables g c = λ clean _. c.requires.tables clean

pub returns-in_err-note-clause-survives : goal.returns-in_err-note-clause-survives
returns-in_err-note-clause-survives g c = survives_same (state g.S.Store c.args.conn.now) _
