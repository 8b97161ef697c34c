use Rattle.std.proofs.Common.{All, take, ℕ, ◌<◌, ◌^◌}
use Rattle.std.specs.declared.rc.RcStr.{RcStr}
use Rattle.std.specs.declared.alloc.Global.{Global}
use Rattle.ring_model.proofs.proper.texts_are_proper.Given as goal

abbrev pub invariant-loop-text : goal.invariant-loop-text
invariant-loop-text l = All (λ (t : ℕ × RcStr Global). t.0 < 2 ^ 32) (take l.text-index l.texts)
