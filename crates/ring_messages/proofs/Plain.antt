-- Values whose numbers are whole and whose objects are in order are read back from their text.
use Rattle.std.proofs.Common.{◌≡◌, ◌^◌, ◌<◌, ◌≤◌, List, [], Option, Some, option_and_then, refl}
use Rattle.std.proofs.Common.{sym, ap, ◌∙◌, append-nil, arith}
use Rattle.std.specs.Prelude.{⊤}
use Rattle.json.specs.Token.{Token}
use Rattle.json.specs.Lex.{tokens}
use Rattle.json.specs.Json as json
use Rattle.json.specs.Tree as tree
use Rattle.json.specs.Tree.{json_tokens, HasNumbers, ItemsHaveNumbers, MembersHaveNumbers}
use Rattle.json.proofs.Printed.Tokens.{tokens-print}
use Rattle.json.proofs.Printed.Trees.{ArePrintable-json_tokens, value-json_tokens}
use Rattle.json.proofs.Printed.Decimals.{IsNumber-decimal}
use Rattle.serde_json.specs.Data.{Num, unsigned, negative, float, Data, null, boolean, number}
use Rattle.serde_json.specs.Data.{string, array, object, Items, no_items, item, Members, no_members}
use Rattle.serde_json.specs.Data.{member, put, depth, items_depth, members_depth}
use Rattle.serde_json.specs.Read.{read, of_json, of_items, of_members, max_depth}
use Rattle.serde_json.specs.Written.{compact_text, outline, items_outline, members_outline}
use Rattle.serde_json.proofs.Texts.{print-outline}
use Rattle.serde_json.proofs.Numbers.{number_of-decimal}
use Rattle.ring_messages.proofs.Puts.{EachMember}

abbrev IsWhole : Num → Type 0
IsWhole (unsigned n) = n < 2 ^ 64
IsWhole (negative z) = ⊥
IsWhole (float x) = ⊥

-- the members, put in one after another
abbrev pub put_each : Members → Members → Members
put_each no_members found = found
put_each (member k d ms) found = put_each ms (put k d found)

abbrev mutual
  pub IsPlain : Data → Type 0
  IsPlain null = ⊤
  IsPlain (boolean b) = ⊤
  IsPlain (number n) = IsWhole n
  IsPlain (string s) = ⊤
  IsPlain (array ds) = ArePlain ds
  IsPlain (object ms) = MembersArePlain ms × (put_each ms no_members ≡ ms)

  pub ArePlain : Items → Type 0
  ArePlain no_items = ⊤
  ArePlain (item d ds) = IsPlain d × ArePlain ds

  pub MembersArePlain : Members → Type 0
  MembersArePlain no_members = ⊤
  MembersArePlain (member k d ms) = IsPlain d × MembersArePlain ms

pub members_plain : (ms : Members) → EachMember (λ k d. IsPlain d) ms → MembersArePlain ms
members_plain no_members all = tt
members_plain (member k d ms) all = (all.0, members_plain ms all.1)

mutual
  numbers : (d : Data) → IsPlain d → HasNumbers (outline d)
  numbers null h = tt
  numbers (boolean b) h = tt
  numbers (number (unsigned n)) h = IsNumber-decimal n h
  numbers (number (negative z)) h = absurd h
  numbers (number (float x)) h = absurd h
  numbers (string s) h = tt
  numbers (array ds) h = items_numbers ds h
  numbers (object ms) h = members_numbers ms h.0

  items_numbers : (ds : Items) → ArePlain ds → ItemsHaveNumbers (items_outline ds)
  items_numbers no_items h = tt
  items_numbers (item d ds) h = (numbers d h.0, items_numbers ds h.1)

  members_numbers : (ms : Members) → MembersArePlain ms → MembersHaveNumbers (members_outline ms)
  members_numbers no_members h = tt
  members_numbers (member k d ms) h = (numbers d h.0, members_numbers ms h.1)

mutual
  back : (d : Data) → IsPlain d → of_json (outline d) ≡ Some d
  back null h = refl
  back (boolean b) h = refl
  back (number (unsigned n)) h = let is = number_of-decimal n h in rw is refl
  back (number (negative z)) h = absurd h
  back (number (float x)) h = absurd h
  back (string s) h = refl
  back (array ds) h = rw (items_back ds h) refl
  back (object ms) h = rw (members_back ms no_members h.0, h.1) refl

  items_back : (ds : Items) → ArePlain ds → of_items (items_outline ds) ≡ Some ds
  items_back no_items h = refl
  items_back (item d ds) h = rw (back d h.0, items_back ds h.1) refl

  members_back : (ms found : Members) → MembersArePlain ms
      → of_members (members_outline ms) found ≡ Some (put_each ms found)
  members_back no_members found h = refl
  members_back (member k d ms) found h = rw (back d h.0) (members_back ms (put k d found) h.1)

mutual
  same_depth : (d : Data) → tree.depth (outline d) ≡ depth d
  same_depth null = refl
  same_depth (boolean b) = refl
  same_depth (number n) = refl
  same_depth (string s) = refl
  same_depth (array ds) = rw (items_same ds) refl
  same_depth (object ms) = rw (members_same ms) refl

  items_same : (ds : Items) → tree.items_depth (items_outline ds) ≡ items_depth ds
  items_same no_items = refl
  items_same (item d ds) = rw (same_depth d, items_same ds) refl

  members_same : (ms : Members) → tree.members_depth (members_outline ms) ≡ members_depth ms
  members_same no_members = refl
  members_same (member k d ms) = rw (same_depth d, members_same ms) refl

-- `read`, from what the grammar gives
abbrev last_of : Option (json.Json × List Token) → Option Data
last_of o = option_and_then of_json (option_and_then (λ p. json.if_last p.0 p.1) o)

pub reads_compact : (d : Data) → IsPlain d → depth d ≤ max_depth → read (compact_text d) ≡ Some d
reads_compact d plain low =
    let lexed : tokens (compact_text d) ≡ json_tokens (outline d) =
    ap tokens (sym (print-outline d))
    ∙ tokens-print (json_tokens (outline d))
    (ArePrintable-json_tokens (outline d) (numbers d plain)) in
    let flat : tree.depth (outline d) ≤ max_depth = omega (arith, same_depth d) in
    ap last_of (ap (json.value max_depth) (lexed ∙ sym (append-nil (json_tokens (outline d))))
    ∙ value-json_tokens (outline d) max_depth [] flat) ∙ back d plain
