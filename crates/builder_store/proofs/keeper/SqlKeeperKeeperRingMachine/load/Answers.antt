use Rattle.builder_store.specs.Standing.{stands_for_one}
use Rattle.builder_store.specs.Inner.Known.{whole_trees}
use Rattle.builder_store.specs.Inner.Leaves.{leaves_still}
use Rattle.sqlite.specs.Held.{state}
use Rattle.builder_store.proofs.keeper.SqlKeeperKeeperRingMachine.load.Goals as goal

pub returns-clause-left : goal.returns-clause-left
returns-clause-left g c = λ clean.
    let k = c.args.self.now in
    let has = k.tables c.requires clean in
    leaves_still (state g.S.Store k.conn) _ (λ it. stands_for_one (k.holds it)) _ clean
    (whole_trees g.S.Store k.faults k.last.value k.conn c.requires)
    (λ db may. g.met.S.Store.settled k.conn.store db has.0 may)
    (g.met.S.Store.stays k.conn.store has.0)
