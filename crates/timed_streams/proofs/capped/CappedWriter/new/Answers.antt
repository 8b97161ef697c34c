use Rattle.std.proofs.Common.{refl}
use Rattle.timed_streams.proofs.capped.CappedWriter.new.Goals as goal

pub returns : goal.returns
returns g c = record { inner = refl; takes = refl }
