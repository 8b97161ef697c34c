-- Faults of files tell their causes.
use Rattle.std.proofs.Common.{◌≡◌}
use Rattle.builder_store.specs.declared.fault.FileFault.TheVariants.{Opening}
use Rattle.builder_store.specs.declared.fault.OpenFault.{OpenFault}

pub same_cause : (a b : OpenFault) → Opening a ≡ Opening b → a ≡ b
same_cause a b is = cc
