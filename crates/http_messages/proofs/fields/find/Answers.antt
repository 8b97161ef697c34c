use Rattle.std.proofs.Common.{true, false, length, ◌<◌, arith}
use Rattle.std.proofs.lemmas.List.Elements.{All-get_or}
use Rattle.httparse.specs.Spans.{IsHeaderWithin}
use Rattle.http_messages.proofs.FieldLemmas.{values_more, found_same, found_first, found_again}
use Rattle.http_messages.proofs.fields.find.Goals.{then-is_named+in-Missing}
use Rattle.http_messages.proofs.fields.find.Goals.{then-is_named+in_default, else-is_named}
use Rattle.http_messages.proofs.fields.find.Goals as goal

pub loop-header-preserved : goal.loop-header-preserved
loop-header-preserved c =
    let buf = c.args.buf.now in
    let hs = c.args.headers.now in
    let i = c.loop-header.header-index in
    let inv = c.loop-header.invariant in
    let lt : i < length hs = omega arith in
    elim c.if-is_named.branch [
      | then-is_named+in-Missing w ↦
          rw w.found-is (found_first buf _ _ _ (values_more buf c.args.name.now hs i _ true lt
          w.if-is_named.ensures) (rw w.in-Missing.is at inv)
          (All-get_or (IsHeaderWithin (length buf)) hs i _ lt c.requires).1)
      | then-is_named+in_default w ↦
          rw w.found-is (found_again buf c.loop-header.found _ _ _ (values_more buf c.args.name.now
          hs i _ true lt w.if-is_named.ensures) w.in_default.not-Missing inv)
      | else-is_named w ↦
          rw w.found-is (found_same buf c.loop-header.found _ _ (values_more buf c.args.name.now hs
          i _ false lt w.if-is_named.ensures) inv)
    ]
