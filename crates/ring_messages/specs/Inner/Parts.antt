-- What a writer gets of a command's object that may have who asks and by which number in it.
use Rattle.std.specs.Prelude.{List, ◌∷◌, ◌++◌, MatchOption, Option, Result, codes, decimal}
use Rattle.std.specs.Prelude.{flat_map}
use Rattle.std.specs.Borrow.{Bor}
use Rattle.json.specs.Token.{Token, begin_object, key, number, string}
use Rattle.json.specs.Written.{Written}
use Rattle.serde_json.specs.Data.{Data, Members, member, no_members, object}
use Rattle.serde_json.specs.Data as value
use Rattle.ring_words.specs.declared.request.Key.{Key}
use Rattle.ring_words.specs.declared.device.Row.{Row}
use Rattle.ring_messages.specs.Fields.{row_data, whole}
use Rattle.ring_messages.specs.Message.{with_key}
use Rattle.ring_messages.specs.Objects.{Adds, AddsData, MemberList, data_tokens}
use Rattle.ring_messages.specs.Objects.{members_before, members_tokens}

-- The writer got the value, and in it who asks and by which number, if that is told.
pub record AddsKeyed {E : Type 0} (r : Result (Unit {0}) E) (old new : Written)
    (asked : Option (Bor Key)) (d : Data) : Type 0 where
  pub adds : MatchOption asked (AddsData r old new d) (λ k. AddsData r old new (with_key k.now d))

-- The tokens of the beginning of an object of three parts.
abbrev pub begun : MemberList → MemberList → MemberList → List Token
begun first middle last =
    begin_object ∷ (members_tokens first ++ (members_tokens middle ++ members_tokens last))

-- The same, with who asks behind the first part, and the number behind the second.
abbrev pub begun_keyed : Key → MemberList → MemberList → MemberList → List Token
begun_keyed k first middle last =
    begin_object ∷ (members_tokens first ++ (key (codes "caller") ∷ string k.caller
    ∷ (members_tokens middle ++ (key (codes "number") ∷ number (decimal k.number)
    ∷ members_tokens last))))

-- The writer got one or the other.
pub record Begins {E : Type 0} (r : Result (Unit {0}) E) (old new : Written) (asked : Option (Bor Key))
    (first middle last : MemberList) : Type 0 where
  pub adds : MatchOption asked (Adds r old new (begun first middle last))
      (λ k. Adds r old new (begun_keyed k.now first middle last))

-- The members of an object of three parts, and these behind them.
abbrev pub parts_before : MemberList → MemberList → MemberList → Members → Members
parts_before first middle last ms =
    members_before first (members_before middle (members_before last ms))

-- The same, with who asks behind the first part, and the number behind the second.
abbrev pub keyed_before : Key → MemberList → MemberList → MemberList → Members → Members
keyed_before k first middle last ms =
    members_before first (member (codes "caller") (value.string k.caller)
    (members_before middle (member (codes "number") (whole k.number) (members_before last ms))))

-- The writer got an object of three parts, and behind them these members.
pub record AddsParts {E : Type 0} (r : Result (Unit {0}) E) (old new : Written)
    (asked : Option (Bor Key)) (first middle last : MemberList) (ms : Members) : Type 0 where
  pub adds : MatchOption asked (AddsData r old new (object (parts_before first middle last ms)))
      (λ k. AddsData r old new (object (keyed_before k.now first middle last ms)))

-- The tokens of rows, one after another.
abbrev pub rows_tokens : List Row → List Token
rows_tokens rs = flat_map (λ r. data_tokens (row_data r)) rs
