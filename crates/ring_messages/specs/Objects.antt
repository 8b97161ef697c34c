-- What a writer of JSON gets of numbers and texts, of the members of an object, and of a value.
use Rattle.std.specs.Prelude.{◌≡◌, ℕ, List, [], ◌∷◌, ◌++◌, OnOk, Result, decimal, flat_map}
use Rattle.std.specs.Borrow.{Bor}
use Rattle.json.specs.Token.{Token, key, number, string}
use Rattle.json.specs.Tree.{json_tokens}
use Rattle.json.specs.Written.{Written}
use Rattle.serde_json.specs.Data.{Data, Members, member, no_members}
use Rattle.serde_json.specs.Data as value
use Rattle.serde_json.specs.Written.{outline}
use Rattle.ring_messages.specs.Fields.{whole}
use Rattle.ring_messages.specs.declared.objects.Scalar.{Scalar}
use Rattle.ring_messages.specs.declared.objects.Scalar.TheVariants.{Number, Text}

-- What is written of a number or a text.
abbrev pub scalar_data : Scalar → Data
scalar_data (Number n) = whole n
scalar_data (Text text) = value.string text.now

-- What is written of members of an object, in this order.
abbrev pub MemberList : Type 0
MemberList = List (Bor (List ℕ) × Scalar)

-- The members of an object in this order, and these behind them.
abbrev pub members_before : MemberList → Members → Members
members_before [] ms = ms
members_before (next ∷ further) ms =
    member next.0.now (scalar_data next.1) (members_before further ms)

-- The members of an object in this order.
abbrev pub members_of : MemberList → Members
members_of each = members_before each no_members

-- The tokens of a value.
abbrev pub data_tokens : Data → List Token
data_tokens d = json_tokens (outline d)

-- The token of a number or a text.
abbrev pub scalar_token : Scalar → Token
scalar_token (Number n) = number (decimal n)
scalar_token (Text text) = string text.now

-- The tokens of a member.
abbrev pub member_tokens : Bor (List ℕ) × Scalar → List Token
member_tokens m = key m.0.now ∷ scalar_token m.1 ∷ []

-- The tokens of members in this order.
abbrev pub members_tokens : MemberList → List Token
members_tokens each = flat_map member_tokens each

-- The writer got these tokens, unless the call failed. What it wrote behind stays.
abbrev pub Adds : {E : Type 0} → Result (Unit {0}) E → Written → Written → List Token → Type 0
Adds r old new ts = OnOk r (new.tokens ≡ old.tokens ++ ts) × (new.before ≡ old.before)

-- The writer got the tokens of this value, unless the call failed.
pub record AddsData {E : Type 0} (r : Result (Unit {0}) E) (old new : Written) (d : Data)
    : Type 0 where
  pub adds : Adds r old new (data_tokens d)
