use Rattle.std.proofs.Common.{refl, arith}
use Rattle.byte_streams.proofs.counted.CountedWriterWrite.flush.Goals as goal

pub returns-in-Ok : goal.returns-in-Ok
returns-in-Ok g c = rw c.in-Ok.is record {
  bytes = c.flush-result.ensures.bytes;
  ok = refl;
  interrupted = tt;
  failed = tt;
  fewer = omega arith;
  fewer_interrupted = tt;
  flushed = refl;
  unflushed = tt;
}
