use Rattle.std.proofs.Common.{◌∙◌, ap}
use Rattle.std.specs.Prelude.{not}
use Rattle.sqlite.specs.Held.{state}
use Rattle.builder_store.proofs.Settled.{settled_from}
use Rattle.builder_store.proofs.calls.settle.Goals as goal

pub returns-clause-settled : goal.returns-clause-settled
returns-clause-settled g c = λ idle has.
    settled_from (state g.S.Store c.args.conn.now) c.schema-schema.ensures.live
    (c.is_autocommit-ended.ensures.settled (c.is_autocommit-ended.ensures.value ∙ ap not idle)) has
