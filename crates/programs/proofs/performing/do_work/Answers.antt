use Rattle.std.proofs.Common.{inl, inr, refl}
use Rattle.std.proofs.lemmas.Result.{IfErr-weaker}
use Rattle.byte_streams.proofs.KnownLemmas.{OnOk-always}
use Rattle.programs.proofs.Endings.{both_done}
use Rattle.programs.proofs.performing.do_work.Goals as goal

pub returns-in-Run-clause-failed : goal.returns-in-Run-clause-failed
returns-in-Run-clause-failed g c = rw c.in-Run.is (IfErr-weaker c.run.result _ _
    (λ why f. inr (f, c.run.ensures.opened)) c.run.ensures.failed)

pub returns-in-Serve-clause-done : goal.returns-in-Serve-clause-done
returns-in-Serve-clause-done g c = rw c.in-Serve.is (both_done c.serve_store.result _ _ _
    c.serve_store.ensures.served (OnOk-always c.serve_store.result c.serve_store.ensures.opened)
    (λ did one. (refl, refl, did, one)))

pub returns-in-Serve-clause-failed : goal.returns-in-Serve-clause-failed
returns-in-Serve-clause-failed g c = rw c.in-Serve.is (IfErr-weaker c.serve_store.result _ _
    (λ why f. inr (refl, refl, f, c.serve_store.ensures.opened)) c.serve_store.ensures.failed)

pub returns-in-Loop-clause-done : goal.returns-in-Loop-clause-done
returns-in-Loop-clause-done g c = rw c.in-Loop.is (both_done c.loop_file.result _ _ _
    c.loop_file.ensures.looped c.loop_file.ensures.opened (λ did one. (refl, did, one)))

pub returns-in-Loop-clause-failed : goal.returns-in-Loop-clause-failed
returns-in-Loop-clause-failed g c = rw c.in-Loop.is (IfErr-weaker c.loop_file.result _ _
    (λ why f. inr (refl, f)) c.loop_file.ensures.failed)

pub returns-in-Log-clause-done : goal.returns-in-Log-clause-done
returns-in-Log-clause-done g c = rw c.in-Log.is (both_done c.write_log.result _ _ _
    c.write_log.ensures.written c.write_log.ensures.opened (λ did one. (refl, did, one)))

pub returns-in-Log-clause-failed : goal.returns-in-Log-clause-failed
returns-in-Log-clause-failed g c = rw c.in-Log.is (IfErr-weaker c.write_log.result _ _
    (λ why f. elim f [
      | inl word ↦ inl (word.0, refl, word.1, word.2)
      | inr work ↦ inr (refl, work.0, work.1)
    ]) c.write_log.ensures.fault)

pub returns-in-Renew-clause-done : goal.returns-in-Renew-clause-done
returns-in-Renew-clause-done g c = rw c.in-Renew.is (both_done c.renew_store.result _ _ _
    c.renew_store.ensures.renewed c.renew_store.ensures.opened (λ did two. (refl, refl, did, two)))

pub returns-in-Renew-clause-failed : goal.returns-in-Renew-clause-failed
returns-in-Renew-clause-failed g c = rw c.in-Renew.is (IfErr-weaker c.renew_store.result _ _
    (λ why f. inr (refl, refl, f)) c.renew_store.ensures.fault)
