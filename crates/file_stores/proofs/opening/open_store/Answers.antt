use Rattle.file_stores.proofs.opening.open_store.Goals as goal

pub returns-in-Err-clause-unopened : goal.returns-in-Err-clause-unopened
returns-in-Err-clause-unopened g c = record {
  told = c.open_fault.ensures;
  unopened = c.in-Err.ensures.unopened;
  connected = c.in-Err.ensures.connected;
  unconnected = c.in-Err.ensures.unconnected;
  bad = c.in-Err.ensures.bad;
  texts = c.in-Err.ensures.texts;
  failed = c.in-Err.ensures.failed;
  rows = c.in-Err.ensures.rows;
  crash = c.in-Err.ensures.crash;
}
