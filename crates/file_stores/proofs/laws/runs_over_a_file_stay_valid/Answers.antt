use Rattle.file_stores.proofs.laws.runs_over_a_file_stay_valid.Goals as goal

pub returns : goal.returns
returns g c = λ image keeper limits new kept sound run.
    let found = kept.found sound in
    let good = c.what_is_opened_is_valid.ensures found.trees (g.K.Keeper.content keeper) found.opens in
    (run.valid good.0 good.1, run.hour good.1)
