use Rattle.std.proofs.Common.{IfOk, subst, sym}
use Rattle.std.specs.Prelude.{string_bytes}
use Rattle.ring_reads.specs.Reads.{IsShown}
use Rattle.ring_reads.proofs.reads.ring_text.Goals as goal

pub returns-in-Moves-clause-shown : goal.returns-in-Moves-clause-shown
returns-in-Moves-clause-shown c =
    subst (λ what. IfOk c.moves_text.result (λ text. IsShown c.args.names.prefix.now
    c.args.names.suffix.now c.args.name.now c.args.ring.now c.args.hour what (string_bytes text)))
    (sym c.in-Moves.is) c.moves_text.ensures.told
