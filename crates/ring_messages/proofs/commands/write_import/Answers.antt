use Rattle.std.proofs.Common.{◌∷◌, ◌++◌, ◌∙◌, List, [], ap, append_assoc, codes, refl, rules}
use Rattle.json.specs.Token.{Token, key}
use Rattle.serde_json.specs.Data.{member, no_members}
use Rattle.ring_messages.specs.Fields.{field_data, rows}
use Rattle.ring_messages.specs.Objects.{data_tokens}
use Rattle.ring_messages.proofs.Putting.{keyed_is, parts_end}
use Rattle.ring_messages.proofs.commands.write_import.Goals as goal

pub returns : goal.returns
returns c =
    let begun = c.begin.new.writer in
    let d = field_data (rows c.as_slice.result.now) in
    let name = key (codes "rows") ∷ [] in
    keyed_is _ _ _ _ _ _ _ _ _
    (parts_end c.end_object.result c.begin.result c.in_ok-begin.field-0 c.args.writer.now begun
    c.write_rows.new.writer c.end_object.new.self c.args.key _ _ _
    (member (codes "rows") d no_members) (name ++ data_tokens d) c.in_ok-begin.was c.begin.ensures
    (c.in_ok-write_rows.ensures.adds.0
    ∙ ap (λ (ts : List Token). ts ++ data_tokens d) c.in_ok-key.ensures.ok
    ∙ append_assoc begun.tokens name (data_tokens d))
    (c.write_rows.ensures.adds.1 ∙ c.key.ensures.room.0) c.end_object.ensures refl)
    (search rules) (λ k. search rules)
