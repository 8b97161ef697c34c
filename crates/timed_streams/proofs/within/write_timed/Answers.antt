use Rattle.timed_streams.proofs.within.write_timed.Goals as goal

pub returns : goal.returns
returns g c = record {
  bound = c.write-result.ensures.bound;
  bytes = c.write-result.ensures.bytes;
  less = c.spend.ensures;
}
