-- What a writer got of the parts of an object that has lists is what is written of it.
use Rattle.std.proofs.Common.{◌≡◌, ℕ, ◌∙◌, List, [], ◌∷◌, ◌++◌, Ok, Result, ap}
use Rattle.std.proofs.Common.{◌+◌, ◌<◌, ◌≤◌, append-nil, append_assoc, arith, get_or, length, map}
use Rattle.std.proofs.Common.{refl, subst, sym, take}
use Rattle.std.specs.List.{zip}
use Rattle.std.proofs.lemmas.Grind.{flat_map-append}
use Rattle.std.proofs.lemmas.List.{take_all}
use Rattle.std.proofs.lemmas.Result.{on_ok_weaker}
use Rattle.std.proofs.lemmas.Slice.Zip.{length-zip}
use Rattle.json.specs.Token.{Token, begin_array, begin_object, end_array, key}
use Rattle.json.specs.Written.{Written}
use Rattle.json.specs.Tree as tree
use Rattle.serde_json.specs.Data.{Data, Members, array, member, object}
use Rattle.serde_json.specs.View.{items_of}
use Rattle.serde_json.specs.Written.{items_outline}
use Rattle.ring_words.specs.declared.device.Device.{Device}
use Rattle.ring_messages.specs.Objects.{AddsData, MemberList, data_tokens}
use Rattle.ring_messages.specs.Objects.{members_before, members_tokens}
use Rattle.ring_messages.proofs.Putting.{behind, members_then, one_more}
use Rattle.ring_reads.specs.Inner.Lists.{BeginsList, BeginsNext, EndsList, TellsEach, further_list}
use Rattle.ring_reads.specs.Inner.Lists.{to_end, told_tokens}

-- what is told of each of these, and then what stands behind the end of their list
items_then : {X : Type 0} (told : X → Data) (xs : List X) (ts : List Token)
    → told_tokens told xs ++ end_array ∷ ts
    ≡ tree.items_tokens (items_outline (items_of (map told xs))) ++ ts
items_then told [] ts = refl
items_then {X} told (x ∷ xs) ts =
    append_assoc (data_tokens (told x)) (told_tokens told xs) (end_array ∷ ts)
    ∙ ap (λ (all : List Token). data_tokens (told x) ++ all) (items_then told xs ts)
    ∙ sym (append_assoc (data_tokens (told x))
    (tree.items_tokens (items_outline (items_of (map told xs)))) ts)

-- members to a list, what is told in it, and then its end and the members behind it
pub list_then : {X : Type 0} (before : MemberList) (k : List ℕ) (told : X → Data) (xs : List X)
    (ms : Members)
    → further_list before k ++ (told_tokens told xs ++ end_array ∷ to_end ms)
    ≡ to_end (members_before before (member k (array (items_of (map told xs))) ms))
list_then {X} before k told xs ms =
    append_assoc (members_tokens before) (key k ∷ begin_array ∷ [])
    (told_tokens told xs ++ end_array ∷ to_end ms)
    ∙ ap (λ (ts : List Token). members_tokens before ++ key k ∷ begin_array ∷ ts)
    (items_then told xs (to_end ms))
    ∙ members_then before (member k (array (items_of (map told xs))) ms)

-- what was begun and filled is written whole once it is ended
pub whole : {E : Type 0} {r : Result (Unit {0}) E} {old last new : Written} {ms : Members}
    (ts : List Token) (d : Data) → last.tokens ≡ old.tokens ++ ts → last.before ≡ old.before
    → EndsList r last new ms → ts ++ end_array ∷ to_end ms ≡ data_tokens d → AddsData r old new d
whole {r = r} {old = old} {ms = ms} ts d so_far stays ends is = record {
  adds = (
    on_ok_weaker r
        (λ got. got ∙ ap (λ (all : List Token). all ++ end_array ∷ to_end ms) so_far
        ∙ append_assoc old.tokens ts (end_array ∷ to_end ms)
        ∙ ap (λ (all : List Token). old.tokens ++ all) is)
        ends.adds.0,
    ends.adds.1 ∙ stays,
  );
}

-- an object of one list with members before and behind it
abbrev pub with_list : {X : Type 0} → MemberList → List ℕ → (X → Data) → List X → Members → Data
with_list before k told xs ms =
    object (members_before before (member k (array (items_of (map told xs))) ms))

pub one_list : {X E F G : Type 0} {r : Result (Unit {0}) E} {u v : Unit {0}}
    {old begun listed new : Written} {before : MemberList} {k : List ℕ} {told : X → Data} {xs : List X}
    {ms : Members} → BeginsList {E = F} (Ok u) old begun k before
    → TellsEach {E = G} (Ok v) begun listed told xs → EndsList r listed new ms
    → AddsData r old new (with_list before k told xs ms)
one_list {old = old} {before = before} {k = k} {told = told} {xs = xs} {ms = ms} begins tells ends =
    let front = begin_object ∷ further_list before k in
    whole (front ++ told_tokens told xs) (with_list before k told xs ms)
    (behind old.tokens front (told_tokens told xs) begins.adds.0 tells.adds.0)
    (tells.adds.1 ∙ begins.adds.1) ends
    (append_assoc front (told_tokens told xs) (end_array ∷ to_end ms)
    ∙ ap (λ (ts : List Token). begin_object ∷ ts) (list_then before k told xs ms))

-- an object of two lists with members before, between and behind them
abbrev pub with_lists : {X Y : Type 0} → MemberList → List ℕ → (X → Data) → List X → MemberList → List ℕ
    → (Y → Data) → List Y → Members → Data
with_lists before k told xs between l further ys ms =
    with_list before k told xs
    (members_before between (member l (array (items_of (map further ys))) ms))

pub two_lists : {X Y E F G H I : Type 0} {r : Result (Unit {0}) E} {u v w z : Unit {0}}
    {old begun listed next last new : Written} {before between : MemberList} {k l : List ℕ}
    {told : X → Data} {xs : List X} {further : Y → Data} {ys : List Y} {ms : Members}
    → BeginsList {E = F} (Ok u) old begun k before → TellsEach {E = G} (Ok v) begun listed told xs
    → BeginsNext {E = H} (Ok w) listed next l between → TellsEach {E = I} (Ok z) next last further ys
    → EndsList r last new ms
    → AddsData r old new (with_lists before k told xs between l further ys ms)
two_lists {old = old} {before = before} {between = between} {k = k} {l = l} {told = told} {xs = xs} {further = further} {ys = ys} {ms = ms} begins tells goes tells_more ends =
    let front = begin_object ∷ further_list before k in
    let first = front ++ told_tokens told xs in
    let middle = end_array ∷ further_list between l in
    whole ((first ++ middle) ++ told_tokens further ys)
    (with_lists before k told xs between l further ys ms)
    (behind old.tokens (first ++ middle) (told_tokens further ys)
    (behind old.tokens first middle
    (behind old.tokens front (told_tokens told xs) begins.adds.0 tells.adds.0) goes.adds.0)
    tells_more.adds.0)
    (tells_more.adds.1 ∙ goes.adds.1 ∙ tells.adds.1 ∙ begins.adds.1) ends
    (append_assoc (first ++ middle) (told_tokens further ys) (end_array ∷ to_end ms)
    ∙ append_assoc first middle (told_tokens further ys ++ end_array ∷ to_end ms)
    ∙ ap (λ (ts : List Token). first ++ end_array ∷ ts) (list_then between l further ys ms)
    ∙ append_assoc front (told_tokens told xs) (end_array ∷ to_end
    (members_before between (member l (array (items_of (map further ys))) ms)))
    ∙ ap (λ (ts : List Token). begin_object ∷ ts) (list_then before k told xs
    (members_before between (member l (array (items_of (map further ys))) ms))))

-- the same members in other words
pub same_end : {E : Type 0} {r : Result (Unit {0}) E} {old new : Written} {ms ns : Members}
    → EndsList r old new ms → ms ≡ ns → EndsList r old new ns
same_end {r = r} {old = old} {new = new} h is = subst (λ (all : Members). EndsList r old new all) is h

-- what is told of more
pub told_more : {X : Type 0} (told : X → Data) (xs ys all : List X) (first before after : List Token)
    → all ≡ xs ++ ys → before ≡ first ++ told_tokens told xs
    → after ≡ before ++ told_tokens told ys → after ≡ first ++ told_tokens told all
told_more {X} told xs ys all first before after is so_far more =
    more ∙ ap (λ (ts : List Token). ts ++ told_tokens told ys) so_far
    ∙ append_assoc first (told_tokens told xs) (told_tokens told ys)
    ∙ ap (λ (ts : List Token). first ++ ts)
    (sym (ap (told_tokens told) is ∙ flat_map-append (λ x. data_tokens (told x)) xs ys))

-- what is told of one element more
pub told_next : {X : Type 0} (told : X → Data) (xs : List X) (i : ℕ) (x : X) (datum : Data)
    (first before after : List Token) → i < length xs → x ≡ get_or xs i x → datum ≡ told x
    → before ≡ first ++ told_tokens told (take i xs) → after ≡ before ++ data_tokens datum
    → after ≡ first ++ told_tokens told (take (i + 1) xs)
told_next {X} told xs i x datum first before after within at is so_far more =
    one_more (λ (e : X). data_tokens (told e)) xs i x first before after within so_far
    (more ∙ ap (λ (d : Data). before ++ data_tokens d) (is ∙ ap told at))

-- what is told of one alone, and of none
pub tells_one : {E X : Type 0} {r : Result (Unit {0}) E} {old new : Written} (told : X → Data) (x : X)
    → AddsData r old new (told x) → TellsEach r old new told (x ∷ [])
tells_one {r = r} {old = old} told x h = record {
  adds = (
    on_ok_weaker r
        (λ got. got ∙ ap (λ (ts : List Token). old.tokens ++ ts)
        (sym (append-nil (data_tokens (told x)))))
        h.adds.0,
    h.adds.1,
  );
}

pub tells_none : {E X : Type 0} (u : Unit {0}) (old : Written) (told : X → Data)
    → TellsEach {E = E} (Ok u) old old told []
tells_none u old told = record { adds = (sym (append-nil old.tokens), refl) }

-- the same elements in other words
pub same_told : {E X : Type 0} {r : Result (Unit {0}) E} {old new : Written} {told : X → Data}
    {xs ys : List X} → TellsEach r old new told xs → xs ≡ ys → TellsEach r old new told ys
same_told {X = X} {r = r} {old = old} {new = new} {told = told} h is =
    subst (λ (all : List X). TellsEach r old new told all) is h

-- what is told once the end of a list was reached, in the words of a list of which the same is told
pub told_all : {X Y : Type 0} (told : X → Data) (xs : List X) (further : Y → Data) (ys : List Y)
    (i : ℕ) (first last : List Token) → length xs ≤ i
    → told_tokens told xs ≡ told_tokens further ys
    → last ≡ first ++ told_tokens told (take i xs) → last ≡ first ++ told_tokens further ys
told_all told xs further ys i first last over same so_far =
    so_far
    ∙ ap (λ (ts : List Token). first ++ ts)
    (ap (told_tokens told) (take_all i xs over) ∙ same)

-- what is told of each device with what it wants, once all of them were told
pub told_pairs : (told : Device × ℕ → Data) (items devices : List Device) (wants : List ℕ) (i : ℕ)
    (first last : List Token) → items ≡ devices → length items ≤ i
    → last ≡ first ++ told_tokens told (take i (zip items wants))
    → last ≡ first ++ told_tokens told (zip devices wants)
told_pairs told items devices wants i first last same over =
    let long = length-zip items wants in
    told_all told (zip items wants) told (zip devices wants) i first last
    (omega (arith, long, over))
    (ap (λ (all : List Device). told_tokens told (zip all wants)) same)
