-- What a writer gets of the parts of an object that has lists.
use Rattle.std.specs.Prelude.{ℕ, List, [], ◌∷◌, ◌++◌, Result}
use Rattle.std.specs.List.{flat_map}
use Rattle.json.specs.Token.{Token, begin_array, begin_object, end_array, key}
use Rattle.json.specs.Tree as tree
use Rattle.json.specs.Written.{Written}
use Rattle.serde_json.specs.Data.{Data, Members}
use Rattle.serde_json.specs.Written.{members_outline}
use Rattle.ring_messages.specs.Objects.{Adds, MemberList, data_tokens, members_tokens}

-- The tokens of what is told of each of these, one behind another.
abbrev pub told_tokens : {X : Type 0} → (X → Data) → List X → List Token
told_tokens told xs = flat_map (λ x. data_tokens (told x)) xs

-- The tokens of these members, and of the beginning of a list under a key behind them.
abbrev pub further_list : MemberList → List ℕ → List Token
further_list before k = members_tokens before ++ key k ∷ begin_array ∷ []

-- The tokens of members, to the end of their object.
abbrev pub to_end : Members → List Token
to_end ms = tree.members_tokens (members_outline ms)

-- The writer got the beginning of an object, to that of a list, unless the call failed.
pub record BeginsList {E : Type 0} (r : Result (Unit {0}) E) (old new : Written) (k : List ℕ)
    (before : MemberList) : Type 0 where
  pub adds : Adds r old new (begin_object ∷ further_list before k)

-- The writer got what stands from the end of a list to the beginning of the next.
pub record BeginsNext {E : Type 0} (r : Result (Unit {0}) E) (old new : Written) (k : List ℕ)
    (between : MemberList) : Type 0 where
  pub adds : Adds r old new (end_array ∷ further_list between k)

-- The writer got what stands from the end of a list to that of its object.
pub record EndsList {E : Type 0} (r : Result (Unit {0}) E) (old new : Written) (ms : Members)
    : Type 0 where
  pub adds : Adds r old new (end_array ∷ to_end ms)

-- The writer got what is told of each of these.
pub record TellsEach {E X : Type 0} (r : Result (Unit {0}) E) (old new : Written) (told : X → Data)
    (xs : List X) : Type 0 where
  pub adds : Adds r old new (told_tokens told xs)
