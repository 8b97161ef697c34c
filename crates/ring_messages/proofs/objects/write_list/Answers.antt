use Rattle.std.proofs.Common.{◌∷◌, List, ap, map}
use Rattle.json.specs.Token.{Token, begin_array, end_array}
use Rattle.ring_messages.specs.Objects.{scalar_token}
use Rattle.ring_messages.proofs.Putting.{framed, items_end}
use Rattle.ring_messages.proofs.objects.write_list.Goals as goal

pub returns : goal.returns
returns c = record {
  adds = framed c.end_array.result c.args.writer.now c.begin_array.new.self c.write_items.new.writer
      c.end_array.new.self begin_array end_array (map scalar_token c.args.items.now) _
      c.in_ok-begin_array.ensures.ok c.begin_array.ensures.room.0 c.in_ok-write_items.ensures.0
      c.write_items.ensures.1 c.end_array.ensures
      (ap (λ (ts : List Token). begin_array ∷ ts) (items_end c.args.items.now));
}
