-- Conditions that hold together.
use Rattle.std.proofs.Common.{Bool, false, refl, true}
use Rattle.std.specs.Prelude.{◌&&◌, IsTrue}

pub both : (a b : Bool) → IsTrue (a && b) → IsTrue a × IsTrue b
both true b h = (refl, h)
both false b h = cc

pub and_is : (a b : Bool) → IsTrue a → IsTrue b → IsTrue (a && b)
and_is a b h k = rw (h, k) refl
