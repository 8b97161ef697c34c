use Rattle.std.proofs.Common.{subst}
use Rattle.std.specs.Prelude.{IsErrOf}
use Rattle.ring_place.specs.declared.rebalances.PlaceError.TheVariants.{TooFewDevices}
use Rattle.ring_reads.proofs.Moving.{enough_open}
use Rattle.ring_reads.proofs.reads.preview_at.Goals as goal

pub preview_json-requires-clause-enough : goal.preview_json-requires-clause-enough
preview_json-requires-clause-enough c = enough_open _ _
    (λ few. cc (subst (λ tried. IsErrOf tried TooFewDevices) c.in-Ok.is
    (c.rebalance.ensures.few.1 few)))
