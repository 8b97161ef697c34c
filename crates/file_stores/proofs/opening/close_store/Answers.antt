use Rattle.file_stores.proofs.opening.close_store.Goals as goal

pub returns-in-Ok-clause-ended : goal.returns-in-Ok-clause-ended
returns-in-Ok-clause-ended g c = record {
  settled = c.stands.ensures.left;
  closed = record {
    are = rw c.stands.ensures.same at c.in-Ok.ensures.files;
    hold = rw c.stands.ensures.same at c.in-Ok.ensures.left;
  };
}

pub returns-in-Err-clause-ended : goal.returns-in-Err-clause-ended
returns-in-Err-clause-ended g c = record {
  settled = c.stands.ensures.left;
  closed = record {
    told = c.close_fault-why.ensures.told;
    unclosed = rw c.stands.ensures.same at c.in-Err.ensures.unclosed;
  };
}
