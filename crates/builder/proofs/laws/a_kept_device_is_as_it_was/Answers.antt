use Rattle.builder.proofs.Marks.{kept_as_it_was}
use Rattle.builder.proofs.laws.a_kept_device_is_as_it_was.Goals as goal

pub returns : goal.returns
returns c = kept_as_it_was
