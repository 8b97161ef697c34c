use Rattle.std.proofs.Common.{◌∙◌, ◌++◌, ◌+◌, ◌≡◌, ◌≤◌, IfErr, List, OnOk, Ok, Err, Option, Result, ap, arith, length}
use Rattle.http_sockets.specs.Connections.{most_looped}
use Rattle.std.proofs.Common.{length-append, ℕ}
use Rattle.std.specs.Io.KnownBytes.{Appends}
use Rattle.byte_streams.specs.Counted.{writer_of}
use Rattle.byte_streams.specs.Writing.{WritesBeginning}
use Rattle.byte_streams.specs.declared.fault.StreamFault.{StreamFault}
use Rattle.byte_streams.specs.declared.fault.StreamFault.TheVariants.{WriteFailed}
use Rattle.http_sockets.proofs.looping.write_few.Goals as goal

front_is_short : (text front left : List ℕ) → text ≡ front ++ left → length text ≤ most_looped →
    length front ≤ most_looped
front_is_short text front left is short =
    let whole : length text ≡ length front + length left = ap length is ∙
    length-append front left in omega (arith, whole, short)

few : (before after : Option (List ℕ)) (text : List ℕ) (result : Result (Unit {0}) StreamFault) →
    length text ≤ most_looped → OnOk result (Appends before after text) →
    IfErr result (λ fault. (fault ≡ WriteFailed) × WritesBeginning before after text) →
    (answers : List ℕ) × (length answers ≤ most_looped) × Appends before after answers
few before after text (Ok done) short ok failed = (text, short, ok)
few before after text (Err fault) short ok (is, part) = (
  part.0,
  front_is_short text part.0 part.1 part.2 short,
  part.3,
)

pub returns-clause-few : goal.returns-clause-few
returns-clause-few g c = few (g.W.Write.contents (writer_of c.args.writer.now))
    (g.W.Write.contents (writer_of c.write_text.new.writer)) c.args.text.now c.write_text.result
    c.requires c.write_text.ensures.ok c.write_text.ensures.failed
