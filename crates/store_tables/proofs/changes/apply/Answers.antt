use Rattle.std.proofs.Common.{◌∙◌, ◌+◌, drop, ap, arith, rules}
use Rattle.std.proofs.lemmas.Grind.{common_steps}
use Rattle.sqlite.specs.Held.{state}
use Rattle.sqlite.specs.State.{HasCleanDisk}
use Rattle.store_model.specs.Changes.{changed_all}
use Rattle.store_tables.proofs.Inside.{kept_on, quiet_on}
use Rattle.store_tables.proofs.changes.apply.Goals as goal

pub changes-preserved : goal.changes-preserved
changes-preserved g c =
    let was = c.changes.invariant in
    let did = c.in_ok-apply_one.ensures.writes in
    let old = state g.S.Store c.args.tx.now.conn.now in
    let mid = state g.S.Store c.changes.tx.conn.now in
    let new = state g.S.Store c.apply_one.new.tx.conn.now in
    record {
      same_reference = c.apply_one.ensures.same_reference ∙ was.same_reference;
      store = λ clean. (did.done clean).store;
      made = λ clean.
          let early : HasCleanDisk mid = omega (arith, did.survives.clean, clean) in
          let now = (did.done clean).contents in
          let sofar = was.made early in
          ap (λ x. changed_all x (drop (c.changes.change-index + 1) c.args.changes.now)) now ∙
          first_of (search rules, grind (arith, common_steps)) ∙ sofar;
      inside = λ clean. did.inside clean ∙ was.inside (omega (arith, did.survives.clean, clean));
      kept = λ clean. kept_on old mid new (was.kept (omega (arith, did.survives.clean, clean)))
          (did.kept clean);
      survives = quiet_on old mid new was.survives did.survives;
    }
