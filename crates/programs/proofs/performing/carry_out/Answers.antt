use Rattle.std.proofs.Common.{inr, refl, rules}
use Rattle.std.proofs.lemmas.Result.{IfErr-weaker, err_from_is_err_and}
use Rattle.programs.specs.Left.{Closes, FailsToMake, GivesNoText, GivesText, RefusesToOpen}
use Rattle.programs.specs.Inner.Tellings.{IsTelling}
use Rattle.programs.proofs.Telling.{on_any, tells_nothing}
use Rattle.programs.proofs.performing.carry_out.Goals as goal

pub returns-in-Service-clause-failed : goal.returns-in-Service-clause-failed
returns-in-Service-clause-failed g c = rw c.in-Service.is (
  inr (
    refl,
    refl,
    record {
      ask = record {
        file = c.in-Service.file;
        port = c.in-Service.port;
        hosts = c.as_slice.result;
        hour_ok = c.in-Service.hour_ok;
        names = c.in-Service.names;
      };
      asks = (refl, refl, c.as_slice.ensures.value, refl, refl);
      clock = c.new_clock-clock.result;
      set = c.new_clock-clock.ensures;
      stops = c.serve_programs.ensures.stopped.0;
    },
    c.serve_programs.ensures.opened,
  ),
  c.serve_programs.ensures.stopped.1,
)

pub returns-in_err-found_store : goal.returns-in_err-found_store
returns-in_err-found_store g c =
    let p = err_from_is_err_and c.from_residual.result c.from_residual.ensures.1 in
    let failed = rw c.as_slice-in-Found.ensures.value at c.in_err-found_store.ensures.failed in
    rw (p.1, p.2, c.in-Found.is) (record {
      ended = tt;
      untold = tt;
      failed = (inr (refl, refl, failed.0), failed.1);
    })

pub returns : goal.returns
returns g c =
    let none : IsTelling c.args.task.now → ⊥ = search rules in
    record {
      ended = c.perform_task.ensures.ended;
      untold = on_any c.perform_task.result _ refl;
      failed = IfErr-weaker c.perform_task.result _ _ (tells_nothing _ g.S.Kept.Keeper
          g.S.Stores.begins (Closes g.S.Stores) g.R.Read.remaining g.W.Write.contents
          c.args.reader.now c.perform_task.new.reader c.args.writer.now c.perform_task.new.writer
          (GivesText g.S.Stores) (GivesNoText g.S.Stores) (g.S.Stores.openings c.args.stores.now)
          (g.S.Stores.openings c.perform_task.new.stores) (RefusesToOpen g.S.Stores)
          (FailsToMake g.S.Stores) g.E.Write.contents c.args.errors.now c.args.task.now none)
          c.perform_task.ensures.failed;
    }
