-- An object that has as many members as there are keys has no others.
use Rattle.std.proofs.Common.{◌≡◌, ◌≢◌, ℕ, suc, ◌≤◌, List, [], ◌∷◌, ◌++◌, length, map, Bool, true}
use Rattle.std.proofs.Common.{false, true≢false, bytes_eq, Option, Some, None, refl, sym, ap, subst}
use Rattle.std.proofs.Common.{◌∙◌, ⊎_elim, arith}
use Rattle.std.specs.Prelude.{◌&&◌, not, cond, is_some, ⊤}
use Rattle.std.specs.Option.{IsSome}
use Rattle.std.proofs.Common.{Ordering, Less, Equal, Greater}
use Rattle.std.specs.Ordering.{nat_cmp, match_ordering, eq_by_cmp, is_eq}
use Rattle.std.specs.Cmp.{IsEquivalence}
use Rattle.std.specs.Cmp.Lexicographic.{slice_cmp}
use Rattle.std.specs.List.{list_any, IsDistinct, AllByRecursion}
use Rattle.std.specs.Map.{lookup, keys_of}
use Rattle.std.proofs.lemmas.Bool.{and_parts, or_parts, or_cases, not-true}
use Rattle.std.proofs.lemmas.Cmp.{eq_by_cmp_equiv, nat_list_cmp_total}
use Rattle.std.proofs.lemmas.List.{length-append}
use Rattle.std.proofs.lemmas.List.Folds.{list_any-append}
use Rattle.std.proofs.lemmas.Map.Keys.{IsDistinct-push}
use Rattle.std.proofs.lemmas.Map.Lookups.{exact_bytes}
use Rattle.std.proofs.lemmas.Map.Made.{is_some-lookup}
use Rattle.std.proofs.lemmas.Map.Steps.{length-le_from_keys}
use Rattle.std.proofs.lemmas.Map.Text.{is_eq-slice_cmp}
use Rattle.std.proofs.lemmas.Map.Views.{tells_apart}
use Rattle.std.proofs.lemmas.Slice.Eq.{bytes_eq-Decides}
use Rattle.serde_json.specs.Data.{Data, null, boolean, number, string, array, object, Members}
use Rattle.serde_json.specs.Data.{no_members, member}
use Rattle.serde_json.specs.Events.{members_len}
use Rattle.serde_json.specs.Find.{get, get_member}
use Rattle.ring_messages.specs.Fields.{Fields}
use Rattle.ring_messages.specs.Message.{members_count}
use Rattle.ring_messages.proofs.FieldLists.{AreApart, HasMembers, IsNoKey}

-- ---- keys

abbrev pub same_key : List ℕ → List ℕ → Bool
same_key = eq_by_cmp (slice_cmp nat_cmp)

same_key_laws : IsEquivalence same_key
same_key_laws = eq_by_cmp_equiv nat_list_cmp_total

is_key : (a b : List ℕ) → same_key a b ≡ true → a ≡ b
is_key = tells_apart exact_bytes

pub not_key : (a b : List ℕ) → a ≢ b → same_key a b ≡ false
not_key a b h = false_unless (same_key a b) (λ e. h (is_key a b e))
  where
    false_unless : (x : Bool) → (x ≡ true → ⊥) → x ≡ false
    false_unless true n = absurd (n refl)
    false_unless false n = refl

abbrev pub are_apart : List (List ℕ) → Bool
are_apart [] = true
are_apart (k ∷ ks) = not (list_any (same_key k) ks) && are_apart ks

none_same : (k : List ℕ) (ks : List (List ℕ)) → list_any (same_key k) ks ≡ false
    → AllByRecursion (λ y. same_key k y ≡ false) ks
none_same k [] e = tt
none_same k (x ∷ ks) e = let p = or_parts _ _ e in (p.0, none_same k ks p.1)

pub distinct : (ks : List (List ℕ)) → are_apart ks ≡ true → IsDistinct same_key ks
unfolding IsDistinct
distinct [] e = tt
distinct (k ∷ ks) e = let p = and_parts _ _ e in (none_same k ks (not-true _ p.0), distinct ks p.1)

-- ---- members

abbrev entries : Members → List (List ℕ × Data)
entries no_members = []
entries (member k d ms) = (k, d) ∷ entries ms

length-entries : (ms : Members) → length (entries ms) ≡ members_len ms
length-entries no_members = refl
length-entries (member k d ms) = ap suc (length-entries ms)

chosen : {X : Type 0} (o : Ordering) (a b : X) → cond (is_eq o) b a ≡ match_ordering o a b a
chosen Less a b = refl
chosen Equal a b = refl
chosen Greater a b = refl

lookup-entries : (q : List ℕ) (ms : Members) → lookup (same_key q) (entries ms) ≡ get_member q ms
lookup-entries q no_members = refl
lookup-entries q (member k d ms) = ap (λ (o : Option Data). cond (same_key q k) (Some d) o)
    (lookup-entries q ms) ∙ chosen (slice_cmp nat_cmp q k) (get_member q ms) (Some d)

abbrev pub members_of : Data → Members
members_of null = no_members
members_of (boolean b) = no_members
members_of (number n) = no_members
members_of (string s) = no_members
members_of (array ds) = no_members
members_of (object ms) = ms

abbrev pub keys : Data → List (List ℕ)
keys d = keys_of (entries (members_of d))

lookup-get : (q : List ℕ) (d : Data) → lookup (same_key q) (entries (members_of d)) ≡ get q d
lookup-get q null = refl
lookup-get q (boolean b) = refl
lookup-get q (number n) = refl
lookup-get q (string s) = refl
lookup-get q (array ds) = refl
lookup-get q (object ms) = lookup-entries q ms

length-members_count : (d : Data) → length (entries (members_of d)) ≡ members_count d
length-members_count null = refl
length-members_count (boolean b) = refl
length-members_count (number n) = refl
length-members_count (string s) = refl
length-members_count (array ds) = refl
length-members_count (object ms) = length-entries ms

-- ---- as many members as keys that are there: there is no other key

-- each of these keys is there
abbrev pub AreFound : List (List ℕ) → Data → Type 0
AreFound [] d = ⊤
AreFound (k ∷ ks) d = IsSome (get k d) × AreFound ks d

found_append : (ks ls : List (List ℕ)) (d : Data) → AreFound ks d → AreFound ls d
    → AreFound (ks ++ ls) d
found_append [] ls d h g = g
found_append (k ∷ ks) ls d h g = (h.0, found_append ks ls d h.1 g)

found_key : (ks : List (List ℕ)) (d : Data) → AreFound ks d → (q : List ℕ)
    → list_any (same_key q) ks ≡ true → IsSome (get q d)
found_key [] d h q e = cc
found_key (k ∷ ks) d h q e = ⊎_elim
    (λ same. subst (λ (x : List ℕ). IsSome (get x d)) (sym (is_key q k same)) h.0)
    (λ later. found_key ks d h.1 q later)
    (or_cases _ _ e)

at_most : (ks : List (List ℕ)) (d : Data) → IsDistinct same_key ks → AreFound ks d
    → length ks ≤ members_count d
at_most ks d apart h =
    let le = length-le_from_keys same_key_laws ks (entries (members_of d)) apart
    (λ q e. subst IsSome (sym (lookup-get q d)) (found_key ks d h q e)) in
    omega (arith, length-members_count d)

none_unless : (o : Option Data) → (IsSome o → ⊥) → o ≡ None
none_unless None n = refl
none_unless (Some d) n = absurd (n refl)

no_other : (ks : List (List ℕ)) (d : Data) → IsDistinct same_key ks → AreFound ks d
    → members_count d ≡ length ks → (q : List ℕ) → list_any (same_key q) ks ≡ false → get q d ≡ None
no_other ks d apart found count q out = none_unless (get q d) (λ there.
    let le = at_most (ks ++ q ∷ []) d (IsDistinct-push same_key_laws ks q apart out)
    (found_append ks (q ∷ []) d found (there, tt)) in
    omega (arith, length-append ks (q ∷ [])))

-- ---- the members of one object and further keys

by_test : {R : Type 0} (b : Bool) (x y z : Option Data) → cond b x y ≡ z → (b ≡ true → x ≡ z → R)
    → (b ≡ false → y ≡ z → R) → R
by_test true x y z e first second = first refl e
by_test false x y z e first second = second refl e

member_there : (base : Members) (d : Data) → HasMembers base d → (q : List ℕ) (v : Data)
    → get_member q base ≡ Some v → get q d ≡ Some v
member_there no_members d h q v e = cc
member_there (member k c base) d h q v e =
    by_test (same_key q k) (Some c) (lookup (same_key q) (entries base)) (Some v)
    (lookup-entries q (member k c base) ∙ e)
    (λ same is. ap (λ (x : List ℕ). get x d) (is_key q k same) ∙ h.0 ∙ is)
    (λ other is. member_there base d h.1 q v (sym (lookup-entries q base) ∙ is))

keys_found : (base : Members) (d : Data) → HasMembers base d → AreFound (keys_of (entries base)) d
keys_found no_members d h = tt
keys_found (member k v base) d h = (ap is_some h.0, keys_found base d h.1)

no_key : (base : Members) (q : List ℕ) → get_member q base ≡ None
    → list_any (same_key q) (keys_of (entries base)) ≡ false
no_key base q e = sym (is_some-lookup (same_key q) (entries base))
    ∙ ap is_some (lookup-entries q base ∙ e)

alike : (o p : Option Data) → ((v : Data) → o ≡ Some v → p ≡ Some v) → (o ≡ None → p ≡ None) → p ≡ o
alike None p some none = none refl
alike (Some v) p some none = some v refl

pub further : (ks : List (List ℕ)) (base : Members) (d : Data)
    → IsDistinct same_key (ks ++ keys_of (entries base)) → AreFound ks d → HasMembers base d
    → members_count d ≡ length (ks ++ keys_of (entries base))
    → (q : List ℕ) → list_any (same_key q) ks ≡ false → get q d ≡ get_member q base
further ks base d apart found has count q out =
    alike (get_member q base) (get q d) (member_there base d has q) (λ none.
    no_other (ks ++ keys_of (entries base)) d apart
    (found_append ks (keys_of (entries base)) d found (keys_found base d has)) count q
    (list_any-append (same_key q) ks (keys_of (entries base)) ∙ rw (out, no_key base q none) refl))

-- ---- fields under keys that differ

abbrev pub names : Fields → List (List ℕ)
names fs = map (λ f. f.0) fs

pub differ : (a b : List ℕ) → bytes_eq a b ≡ false → a ≢ b
differ a b other e = true≢false (sym ((bytes_eq-Decides a b).1 e) ∙ other)

pub no_name : (k : List ℕ) (fs : Fields) → list_any (same_key k) (names fs) ≡ false → IsNoKey k fs
no_name k [] e = tt
no_name k (f ∷ fs) e =
    let parts = or_parts _ _ e in
    (λ same. differ k f.0 (sym (is_eq-slice_cmp k f.0) ∙ parts.0) (sym same), no_name k fs parts.1)

-- a key that is none of all is none of the last
pub behind : (k : List ℕ) (front ks : List (List ℕ)) → list_any (same_key k) (front ++ ks) ≡ false
    → list_any (same_key k) ks ≡ false
behind k [] ks e = e
behind k (x ∷ front) ks e = behind k front ks (or_parts _ _ e).1

pub names_apart : (fs : Fields) → are_apart (names fs) ≡ true → AreApart fs
names_apart [] e = tt
names_apart (f ∷ fs) e =
    let both = and_parts _ _ e in
    (no_name f.0 fs (not-true _ both.0), names_apart fs both.1)
