-- What a writer got of members and items is what is written of an object and of a list.
use Rattle.std.proofs.Common.{◌≡◌, ℕ, ◌+◌, ◌<◌, ◌∙◌, List, [], ◌∷◌, ◌++◌, take, get_or, length}
use Rattle.std.proofs.Common.{Ok, Option, None, Some, Result, ap, append_assoc, codes, decimal}
use Rattle.std.proofs.Common.{flat_map, map, refl, subst, sym}
use Rattle.std.specs.Prelude.{OnOk}
use Rattle.std.proofs.lemmas.Result.{on_ok_weaker}
use Rattle.std.proofs.lemmas.List.{flat_map_more, take_more}
use Rattle.std.specs.Borrow.{Bor}
use Rattle.json.specs.Print.{print}
use Rattle.json.specs.Token.{Token, begin_object, end_array, end_object, key}
use Rattle.json.specs.Token.{number, string}
use Rattle.json.specs.Written.{Writes, Written}
use Rattle.json.specs.Tree as tree
use Rattle.serde_json.specs.Data.{Data, Members, array, member, no_members, object}
use Rattle.serde_json.specs.Data as value
use Rattle.serde_json.specs.View.{items_of}
use Rattle.serde_json.specs.Written.{compact_text, items_outline, members_outline}
use Rattle.serde_json.proofs.Texts.{print-outline}
use Rattle.ring_messages.specs.declared.objects.Scalar.{Scalar}
use Rattle.ring_messages.specs.declared.objects.Scalar.TheVariants.{Number, Text}
use Rattle.ring_words.specs.declared.device.Row.{Row}
use Rattle.ring_words.specs.declared.request.Key.{Key}
use Rattle.ring_messages.specs.Fields.{row_data, whole}
use Rattle.ring_messages.specs.Inner.Parts.{AddsKeyed, AddsParts, Begins, begun, begun_keyed}
use Rattle.ring_messages.specs.Inner.Parts.{keyed_before, parts_before, rows_tokens}
use Rattle.ring_messages.specs.Objects.{Adds, AddsData, MemberList, data_tokens, members_before, members_tokens}
use Rattle.ring_messages.specs.Message.{with_key}
use Rattle.ring_messages.specs.Objects.{scalar_data, scalar_token}

-- ---- one part more

-- a writer that has the tokens of so many parts gets those of the next
pub one_more : {X : Type 0} (f : X → List Token) (xs : List X) (i : ℕ) (d : X)
    (first before after : List Token) → i < length xs
    → before ≡ first ++ flat_map f (take i xs) → after ≡ before ++ f (get_or xs i d)
    → after ≡ first ++ flat_map f (take (i + 1) xs)
one_more f xs i d first before after within so_far adds =
    adds ∙ ap (λ (ts : List Token). ts ++ f (get_or xs i d)) so_far
    ∙ flat_map_more f first (take i xs) (get_or xs i d)
    ∙ ap (λ (ys : List _). first ++ flat_map f ys) (sym (take_more xs i d within))

-- what was written behind what was written
pub behind : (old x y : List Token) {a b : List Token} → a ≡ old ++ x → b ≡ a ++ y
    → b ≡ old ++ (x ++ y)
behind old x y h more = more ∙ ap (λ (ts : List Token). ts ++ y) h ∙ append_assoc old x y

-- ---- the parts are the whole

scalar_outline : (s : Scalar) (ts : List Token)
    → data_tokens (scalar_data s) ++ ts ≡ scalar_token s ∷ ts
scalar_outline (Number n) ts = refl
scalar_outline (Text text) ts = refl

-- the tokens of some members, and then those of the ones behind them
pub members_then : (each : MemberList) (ms : Members)
    → members_tokens each ++ tree.members_tokens (members_outline ms)
    ≡ tree.members_tokens (members_outline (members_before each ms))
members_then [] ms = refl
members_then (next ∷ further) ms =
    rw (members_then further ms, scalar_outline next.1 (tree.members_tokens (members_outline (members_before further ms)))) refl

-- the tokens of items, and then the end of their list
pub items_end : (items : List Scalar)
    → map scalar_token items ++ end_array ∷ []
    ≡ tree.items_tokens (items_outline (items_of (map scalar_data items)))
items_end [] = refl
items_end (next ∷ further) =
    rw (items_end further, scalar_outline next (tree.items_tokens (items_outline (items_of (map scalar_data further))))) refl

-- the tokens of rows, and then the end of their list
pub rows_end : (rs : List Row)
    → rows_tokens rs ++ end_array ∷ []
    ≡ tree.items_tokens (items_outline (items_of (map row_data rs)))
rows_end [] = refl
rows_end (r ∷ further) =
    append_assoc (data_tokens (row_data r)) (rows_tokens further) (end_array ∷ [])
    ∙ ap (λ (ts : List Token). data_tokens (row_data r) ++ ts) (rows_end further)

-- what was begun, filled and ended is written whole
pub ends : {E : Type 0} (r : Result (Unit {0}) E) (old last new : Written) (t : Token)
    (ts whole : List Token) → last.tokens ≡ old.tokens ++ ts → last.before ≡ old.before
    → Writes r last new t → ts ++ t ∷ [] ≡ whole → Adds r old new whole
ends r old last new t ts whole so_far stays ended is = (
  on_ok_weaker r
      (λ got. got ∙ ap (λ (xs : List Token). xs ++ t ∷ []) so_far
      ∙ append_assoc old.tokens ts (t ∷ []) ∙ ap (λ (xs : List Token). old.tokens ++ xs) is)
      ended.ok,
  ended.room.0 ∙ stays,
)

-- what was begun, filled and ended is written whole, whatever stands between
pub framed : {E : Type 0} (r : Result (Unit {0}) E) (old begun_by filled new : Written)
    (opens closes : Token) (inner whole : List Token) → begun_by.tokens ≡ old.tokens ++ opens ∷ []
    → begun_by.before ≡ old.before → filled.tokens ≡ begun_by.tokens ++ inner
    → filled.before ≡ begun_by.before → Writes r filled new closes
    → opens ∷ (inner ++ closes ∷ []) ≡ whole → Adds r old new whole
framed r old begun_by filled new opens closes inner whole begins kept fills stays ended is =
    ends r old filled new closes (opens ∷ inner) whole
    (behind old.tokens (opens ∷ []) inner begins fills) (stays ∙ kept) ended is

-- ---- the object of a command

-- the tokens of three parts, and then those of the members behind them
parts_then : (first middle last : MemberList) (ms : Members)
    → (members_tokens first ++ (members_tokens middle ++ members_tokens last))
    ++ tree.members_tokens (members_outline ms)
    ≡ tree.members_tokens (members_outline (parts_before first middle last ms))
parts_then first middle last ms =
    let behind = tree.members_tokens (members_outline ms) in
    append_assoc (members_tokens first) (members_tokens middle ++ members_tokens last) behind
    ∙ ap (λ (ts : List Token). members_tokens first ++ ts)
    (append_assoc (members_tokens middle) (members_tokens last) behind
    ∙ ap (λ (ts : List Token). members_tokens middle ++ ts) (members_then last ms)
    ∙ members_then middle (members_before last ms))
    ∙ members_then first (members_before middle (members_before last ms))

keyed_then : (k : Key) (first middle last : MemberList) (ms : Members)
    → begun_keyed k first middle last ++ tree.members_tokens (members_outline ms)
    ≡ data_tokens (object (keyed_before k first middle last ms))
keyed_then k first middle last ms =
    let behind = tree.members_tokens (members_outline ms) in
    let numbered = key (codes "number") ∷ number (decimal k.number) ∷ members_tokens last in
    let named = key (codes "caller") ∷ string k.caller ∷ (members_tokens middle ++ numbered) in
    ap (λ (ts : List Token). begin_object ∷ ts)
    (append_assoc (members_tokens first) named behind
    ∙ ap (λ (ts : List Token). members_tokens first ++ key (codes "caller") ∷ string k.caller ∷ ts)
    (append_assoc (members_tokens middle) numbered behind
    ∙ ap (λ (ts : List Token). members_tokens middle ++ key (codes "number")
    ∷ number (decimal k.number) ∷ ts) (members_then last ms)
    ∙ members_then middle
    (member (codes "number") (whole k.number) (members_before last ms)))
    ∙ members_then first
    (member (codes "caller") (value.string k.caller)
    (members_before middle (member (codes "number") (whole k.number) (members_before last ms)))))

got : {E P : Type 0} (b : Result (Unit {0}) E) (u : Unit {0}) → b ≡ Ok u → OnOk b P → P
got {E} {P} b u done h = subst (λ (x : Result (Unit {0}) E). OnOk x P) done h

-- an object that was begun is ended behind what was written last
pub parts_end : {E : Type 0} (r : Result (Unit {0}) E) (b : Result (Unit {0}) E) (u : Unit {0})
    (old begun_by last new : Written)
    (asked : Option (Bor Key)) (first middle end : MemberList) (ms : Members) (ts : List Token)
    → b ≡ Ok u → Begins b old begun_by asked first middle end
    → last.tokens ≡ begun_by.tokens ++ ts → last.before ≡ begun_by.before
    → Writes r last new end_object
    → ts ++ end_object ∷ [] ≡ tree.members_tokens (members_outline ms)
    → AddsParts r old new asked first middle end ms
parts_end r b u old begun_by last new None first middle end ms ts done begins more stays ended is =
    let front = begun first middle end in
    record {
      adds = record {
        adds = ends r old last new end_object (front ++ ts) _
            (more ∙ ap (λ (xs : List Token). xs ++ ts) (got b u done begins.adds.0)
            ∙ append_assoc old.tokens front ts)
            (stays ∙ begins.adds.1) ended
            (append_assoc front ts (end_object ∷ []) ∙ ap (λ (xs : List Token). front ++ xs) is
            ∙ ap (λ (xs : List Token). begin_object ∷ xs) (parts_then first middle end ms));
      };
    }
parts_end r b u old begun_by last new (Some k) first middle end ms ts done begins more stays ended is =
    let front = begun_keyed k.now first middle end in
    record {
      adds = record {
        adds = ends r old last new end_object (front ++ ts) _
            (more ∙ ap (λ (xs : List Token). xs ++ ts) (got b u done begins.adds.0)
            ∙ append_assoc old.tokens front ts)
            (stays ∙ begins.adds.1) ended
            (append_assoc front ts (end_object ∷ []) ∙ ap (λ (xs : List Token). front ++ xs) is
            ∙ keyed_then k.now first middle end ms);
      };
    }

-- ---- one value in other words

pub same_data : {E : Type 0} {r : Result (Unit {0}) E} {old new : Written} {d e : Data}
    → AddsData r old new d → d ≡ e → AddsData r old new e
same_data {E} {r} {old} {new} {d} {e} h is = subst (λ (x : Data). AddsData r old new x) is h

pub same_keyed : {E : Type 0} {r : Result (Unit {0}) E} {old new : Written} {asked : Option (Bor Key)}
    {d e : Data} → AddsKeyed r old new asked d → d ≡ e → AddsKeyed r old new asked e
same_keyed {E} {r} {old} {new} {asked} {d} {e} h is =
    subst (λ (x : Data). AddsKeyed r old new asked x) is h

-- the parts of a command's object, and of that with who asks in it
pub keyed_is : {E : Type 0} (r : Result (Unit {0}) E) (old new : Written) (asked : Option (Bor Key))
    (first middle last : MemberList) (ms : Members) (d : Data)
    → AddsParts r old new asked first middle last ms
    → object (parts_before first middle last ms) ≡ d
    → ((k : Key) → object (keyed_before k first middle last ms) ≡ with_key k d)
    → AddsKeyed r old new asked d
keyed_is r old new None first middle last ms d h plain keyed =
    record { adds = same_data h.adds plain }
keyed_is r old new (Some k) first middle last ms d h plain keyed =
    record { adds = same_data h.adds (keyed k.now) }

-- what was written of a value is its text
pub text_is : (d : Data) (tokens : List Token) (text : List ℕ) → text ≡ [] ++ print tokens
    → tokens ≡ data_tokens d → text ≡ compact_text d
text_is d tokens text is whole = is ∙ ap print whole ∙ print-outline d

-- a writer of a text of its own got this value alone
pub alone : (d : Data) (first last : List Token) → first ≡ [] → last ≡ first ++ data_tokens d
    → last ≡ data_tokens d
alone d first last none more = more ∙ ap (λ (ts : List Token). ts ++ data_tokens d) none
