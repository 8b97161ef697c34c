use Rattle.programs.proofs.Exported.{comes_in}
use Rattle.programs.proofs.laws.an_exported_ring_comes_in.Goals as goal

pub returns : goal.returns
returns c = comes_in
