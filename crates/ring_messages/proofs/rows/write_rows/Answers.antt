use Rattle.std.proofs.Common.{◌∷◌, List, ap}
use Rattle.json.specs.Token.{Token, begin_array, end_array}
use Rattle.ring_messages.specs.Inner.Parts.{rows_tokens}
use Rattle.ring_messages.proofs.Putting.{framed, rows_end}
use Rattle.ring_messages.proofs.rows.write_rows.Goals as goal

pub returns : goal.returns
returns c = record {
  adds = framed c.end_array.result c.args.writer.now c.begin_array.new.self c.write_each.new.writer
      c.end_array.new.self begin_array end_array (rows_tokens c.args.of.now) _
      c.in_ok-begin_array.ensures.ok c.begin_array.ensures.room.0 c.in_ok-write_each.ensures.0
      c.write_each.ensures.1 c.end_array.ensures
      (ap (λ (ts : List Token). begin_array ∷ ts) (rows_end c.args.of.now));
}
