-- The line behind that of a fault, a text after another.
use Rattle.std.proofs.Common.{refl}
use Rattle.programs.proofs.meanings.tell_line.Goals as goal

pub returns-in-Some : goal.returns-in-Some
returns-in-Some g c = rw c.in-Some.is (
  c.tell_text.new.errors,
  c.tell_text.ensures,
  (
    c.tell_text-in-Some.new.errors,
    c.tell_text-in-Some.ensures,
    (
      c.tell_text-in-Some-2.new.errors,
      c.tell_text-in-Some-2.ensures,
      (c.tell_text-in-Some-3.new.errors, c.tell_text-in-Some-3.ensures, refl),
    ),
  ),
)

pub returns-in-None : goal.returns-in-None
returns-in-None g c = rw c.in-None.is (
  c.tell_text-in-None.new.errors,
  c.tell_text-in-None.ensures,
  (c.tell_text-in-None-2.new.errors, c.tell_text-in-None-2.ensures, refl),
)
