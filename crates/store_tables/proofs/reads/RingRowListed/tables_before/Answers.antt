use Rattle.store_tables.specs.Contents.{contents_of}
use Rattle.store_tables.proofs.Reading.{not_listed}
use Rattle.store_tables.proofs.reads.RingRowListed.tables_before.Goals as goal

pub returns-clause-missing : goal.returns-clause-missing
returns-clause-missing c = λ made trees low. not_listed 1 made (contents_of trees).rings low
