use Rattle.std.proofs.Common.{◌∷◌, ◌∙◌, List, [], ap}
use Rattle.json.specs.Token.{Token, end_array, end_object}
use Rattle.serde_json.specs.Data.{no_members}
use Rattle.ring_messages.specs.Objects.{members_tokens}
use Rattle.ring_messages.proofs.Putting.{behind, ends, members_then}
use Rattle.ring_reads.proofs.lists.end_list.Goals as goal

pub returns : goal.returns
returns c =
    let inner = members_tokens c.args.behind.now in
    let old = c.args.writer.now in
    record {
      adds = ends c.end_object.result old c.write_members.new.writer c.end_object.new.self end_object
          (end_array ∷ inner) _
          (behind old.tokens (end_array ∷ []) inner c.in_ok-end_array.ensures.ok
          c.in_ok-write_members.ensures.0)
          (c.write_members.ensures.1 ∙ c.end_array.ensures.room.0) c.end_object.ensures
          (ap (λ (ts : List Token). end_array ∷ ts) (members_then c.args.behind.now no_members));
    }
