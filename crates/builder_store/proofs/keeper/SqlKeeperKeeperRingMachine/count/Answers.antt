use Rattle.std.proofs.Common.{sym}
use Rattle.builder_store.specs.Inner.Known.{told_agrees}
use Rattle.sqlite.specs.Held.{state}
use Rattle.builder_store.proofs.keeper.SqlKeeperKeeperRingMachine.count.Goals as goal

pub returns : goal.returns
returns g c = λ clean.
    let k = c.args.self.now in
    sym (told_agrees _ (state g.S.Store k.conn).is_clean k.rings k.count k.hour
    (λ it. k.holds it) _ clean).1
