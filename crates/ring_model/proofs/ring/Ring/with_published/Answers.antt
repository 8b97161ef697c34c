use Rattle.std.proofs.Common.{rules}
use Rattle.std.specs.Rc.{rc_str_bytes}
use Rattle.ring_model.specs.Parts.{record_of}
use Rattle.ring_model.proofs.Amidst.{among_valid}
use Rattle.ring_model.proofs.ring.Ring.with_published.Goals as goal

pub of_parts-requires-2 : goal.of_parts-requires-2
of_parts-requires-2 c =
    rw (c.in_ok-put_among.ensures) (among_valid (record_of c.in_ok-parts.parts)
    (rc_str_bytes c.in_ok-text.text) (rw c.in_ok-parts.ensures.parts
    c.in_ok-parts.ensures.valid) (search rules))
