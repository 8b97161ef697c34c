use Rattle.std.proofs.lemmas.Result.{on_ok_weaker}
use Rattle.store_tables.proofs.Living.{store_begun}
use Rattle.store_tables.proofs.creating.create_missing.Goals as goal

pub returns-clause-reaches : goal.returns-clause-reaches
returns-clause-reaches g c =
    let made = c.create_range.ensures.makes in
    record {
      done = λ clean. on_ok_weaker c.create_range.result (λ all. record {
        store =
            store_begun _ all.0;
        contents = all.1;
      }) (made.done clean);
      inside = made.inside;
      kept = made.kept;
      survives = made.survives;
    }
