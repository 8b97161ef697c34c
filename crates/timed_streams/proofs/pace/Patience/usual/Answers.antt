use Rattle.timed_streams.proofs.pace.Patience.usual.Goals as goal

pub returns : goal.returns
returns c = record {
  between = c.from_secs.ensures;
  within = c.from_secs-2.ensures;
  after = c.from_secs-3.ensures;
  among_others = c.from_secs-4.ensures;
  in_all = c.from_secs-5.ensures;
}
