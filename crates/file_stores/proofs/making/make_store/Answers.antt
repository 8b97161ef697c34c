use Rattle.std.proofs.Common.{◌∙◌}
use Rattle.file_stores.proofs.Faults.{store_unmade}
use Rattle.file_stores.proofs.making.make_store.Goals as goal

pub returns-in-Ok-clause-made : goal.returns-in-Ok-clause-made
returns-in-Ok-clause-made g c = record {
  limit = c.in-Ok.ensures.limit ∙ c.full.ensures.numbers;
  faults = c.in-Ok.ensures.faults;
  is = c.in-Ok.ensures.made;
}

pub returns-in-Err-clause-fault : goal.returns-in-Err-clause-fault
returns-in-Err-clause-fault g c = rw c.make_fault.ensures (store_unmade c.in-Err.cause)

pub returns-in-Err-clause-unmade : goal.returns-in-Err-clause-unmade
returns-in-Err-clause-unmade g c = record {
  told = c.make_fault.ensures;
  unjudged = c.in-Err.ensures.unjudged;
  foreign = c.in-Err.ensures.foreign;
  unopened = c.in-Err.ensures.unopened;
  untouched = c.in-Err.ensures.untouched;
  connected = c.in-Err.ensures.connected;
  unconnected = c.in-Err.ensures.unconnected;
  taken = c.in-Err.ensures.taken;
  failed = c.in-Err.ensures.failed;
  stays = c.in-Err.ensures.stays;
  crash = c.in-Err.ensures.crash;
}
