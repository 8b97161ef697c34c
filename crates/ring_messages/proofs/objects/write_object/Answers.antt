use Rattle.std.proofs.Common.{◌∷◌, List, ap}
use Rattle.json.specs.Token.{Token, begin_object, end_object}
use Rattle.serde_json.specs.Data.{no_members}
use Rattle.ring_messages.specs.Objects.{members_tokens}
use Rattle.ring_messages.proofs.Putting.{framed, members_then}
use Rattle.ring_messages.proofs.objects.write_object.Goals as goal

pub returns : goal.returns
returns c = record {
  adds = framed c.end_object.result c.args.writer.now c.begin_object.new.self c.write_members.new.writer
      c.end_object.new.self begin_object end_object (members_tokens c.args.members.now) _
      c.in_ok-begin_object.ensures.ok c.begin_object.ensures.room.0 c.in_ok-write_members.ensures.0
      c.write_members.ensures.1 c.end_object.ensures
      (ap (λ (ts : List Token). begin_object ∷ ts) (members_then c.args.members.now no_members));
}
