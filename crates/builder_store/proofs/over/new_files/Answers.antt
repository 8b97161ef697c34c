use Rattle.builder_store.proofs.Rests.{unopened_apart}
use Rattle.builder_store.proofs.over.new_files.Goals as goal

pub returns-in-Err-clause-unmade : goal.returns-in-Err-clause-unmade
returns-in-Err-clause-unmade g c = (unopened_apart c.in-Err.fault c.in-Err.ensures, λ is. is)
