use Rattle.timed_streams.proofs.within.read_timed.Goals as goal

pub returns : goal.returns
returns g c = record {
  bound = c.read-result.ensures.bound;
  bytes = c.read-result.ensures.bytes;
  less = c.spend.ensures;
}
