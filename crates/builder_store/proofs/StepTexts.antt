-- A step of the builder publishes nothing but a ring's own text.
use Rattle.std.proofs.Common.{◌≡◌, inl, inr, ℕ, Bool, true, false, cond, List, [], ◌∷◌}
use Rattle.std.proofs.Common.{Option, Some, None}
use Rattle.std.proofs.Common.{refl, sym, subst, find, nat_eq, nat_lt, filter}
use Rattle.std.specs.Prelude.{All}
use Rattle.std.specs.Option.{option_map}
use Rattle.std.specs.Cmp.Lexicographic.{pointwise}
use Rattle.std.proofs.lemmas.Bool.{not-false}
use Rattle.std.proofs.lemmas.List.Elements.{All-append, All-cons, All-filter, All-head, All-nil}
use Rattle.std.proofs.lemmas.List.Elements.{All-tail}
use Rattle.std.proofs.lemmas.Slice.Eq.{bytes_eq-Decides}
use Rattle.ring_model.specs.Publish.{among, is_published}
use Rattle.ring_model.specs.Ring.{RingRecord, is_assigned}
use Rattle.ring_model.specs.Rings.{ring_at}
use Rattle.ring_text.proofs.Validity.{valid_of_ring}
use Rattle.ring_text.specs.Snapshot.{snapshot_of}
use Rattle.ring_text.specs.Spelling.{spelling}
use Rattle.ring_words.specs.declared.request.Limits.{Limits}
use Rattle.ring_words.specs.declared.command.Command.{Command}
use Rattle.ring_words.specs.declared.command.Act.{Act}
use Rattle.ring_words.specs.declared.command.Act.TheVariants as act
use Rattle.ring_words.specs.declared.command.Done.{Done}
use Rattle.ring_words.specs.declared.command.Reply.{Reply}
use Rattle.ring_words.specs.declared.command.Reply.TheVariants as reply
use Rattle.builder.specs.Step.{Effect, NoRingEffect, RingEffect, State, Step, causes, ring_causes}
use Rattle.builder.proofs.RingAt.{one_ring}
use Rattle.builder.proofs.ValidRings.{AreClear, none_stands, put_among}
use Rattle.store_rows.specs.Differences.{KeepsOwn}
use Rattle.store_rows.specs.OwnTexts.{HavePublishedOwn, IsOwnText, PublishedOwn}
use Rattle.store_rows.specs.Stands.{AreRings, IsNamedRing}
use Rattle.builder_store.proofs.StepChanges.{effect_leaves}

-- ---- the ring of a name

found_if : (P : List ℕ × RingRecord → Type 0) (name : List ℕ) (b : Bool)
    (first : List ℕ × RingRecord) (rest : Option (List ℕ × RingRecord)) (ring : RingRecord)
    → pointwise nat_eq first.0 name ≡ b
    → option_map (λ e. e.1) (cond b (Some first) rest) ≡ Some ring → P first
    → (option_map (λ e. e.1) rest ≡ Some ring → P (name, ring)) → P (name, ring)
found_if P name true first rest ring is found here others =
    let same : first.0 ≡ name = (bytes_eq-Decides first.0 name).0 is in
    let one : first.1 ≡ ring = one_ring first.1 ring found in
    subst P (λ i. (same i, one i)) here
found_if P name false first rest ring is found here others = others found

-- what is so of each ring under its name is so of the ring of a name
at_name : (P : List ℕ × RingRecord → Type 0) (rings : State) (name : List ℕ) (ring : RingRecord)
    → All P rings → ring_at name rings ≡ Some ring → P (name, ring)
at_name P [] name ring all found = cc
at_name P (first ∷ rest) name ring all found =
    found_if P name (pointwise nat_eq first.0 name) first
    (find (λ e. pointwise nat_eq e.0 name) rest) ring refl found (All-head P first rest all)
    (at_name P rest name ring (All-tail P first rest all))

-- ---- an act

-- the text of an assigned ring is its own
taken_own : (name : List ℕ) (ring : RingRecord) → IsNamedRing (name, ring)
    → is_assigned ring ≡ true → IsOwnText name (ring.version, spelling (snapshot_of name ring))
taken_own name ring named assigned = record {
  snapshot = snapshot_of name ring;
  spelled = record {
    valid = valid_of_ring name ring named.valid assigned named.name;
    text = refl;
  };
  named = refl;
  taken = refl;
}

put_own : (b : Bool) (name : List ℕ) (ring : RingRecord) (text : List ℕ)
    → PublishedOwn (name, ring) → IsOwnText name (ring.version, text)
    → PublishedOwn (
      name,
      cond b ring (record ring {
        published = among ring.version text ring.published;
      }),
    )
put_own true name ring text own is = own
put_own false name ring text own is =
    let P : ℕ × List ℕ → Type 0 = IsOwnText name in
    All-append P (filter (λ e. nat_lt e.0 ring.version) ring.published)
    ((ring.version, text) ∷ filter (λ e. nat_lt ring.version e.0) ring.published)
    (All-filter (λ e. nat_lt e.0 ring.version) P ring.published own)
    (All-cons P (ring.version, text) (filter (λ e. nat_lt ring.version e.0) ring.published) is
    (All-filter (λ e. nat_lt ring.version e.0) P ring.published own))

is_clear_to_publish : (a : Act) (limits : Limits) (hour : ℕ) (ring : RingRecord) → a ≡ act.Publish
    → AreClear (ring_causes limits hour ring a) → is_assigned ring ≡ true
is_clear_to_publish a limits hour ring is clear =
    not-false (is_assigned ring)
    (subst (λ x. AreClear (ring_causes limits hour ring x)) is clear).0

effect_own : (a : Act) (answer : Done) (limits : Limits) (name : List ℕ) (old new : RingRecord)
    (hour : ℕ) → AreClear (ring_causes limits hour old a) → RingEffect name hour old a answer new
    → IsNamedRing (name, old) → PublishedOwn (name, old) → PublishedOwn (name, new)
effect_own a answer limits name old new hour clear effect named own =
    elim (effect_leaves a answer name old new hour effect).texts [
      | inl same ↦ subst (All (IsOwnText name)) (sym same) own
      | inr publishes ↦ subst (λ (r : RingRecord). PublishedOwn (name, r)) (sym publishes.1)
          (put_own (is_published old) name old _ own (taken_own name old named
          (is_clear_to_publish a limits hour old publishes.0 clear)))
    ]

first_own : (a : Act) (answer : Done) (name : List ℕ) (new : RingRecord)
    → NoRingEffect a answer new → PublishedOwn (name, new)
first_own (act.Create made) answer name new effect =
    subst (λ (r : RingRecord). PublishedOwn (name, r)) (sym effect.0) (All-nil (IsOwnText name))
first_own a answer name new effect = absurd effect

-- ---- a step

by_found : (found : Option RingRecord) (a : Act) (answer : Done) (limits : Limits) (rings : State)
    (name : List ℕ) (new : RingRecord) (hour : ℕ) → ring_at name rings ≡ found
    → AreClear (causes limits rings hour found a) → Effect name hour found a answer new
    → AreRings rings → HavePublishedOwn rings → PublishedOwn (name, new)
by_found None a answer limits rings name new hour is clear effect are own =
    first_own a answer name new effect
by_found (Some old) a answer limits rings name new hour is clear effect are own =
    effect_own a answer limits name old new hour clear effect
    (at_name IsNamedRing rings name old are.each is) (at_name PublishedOwn rings name old own is)

pub step_keeps_own : (limits : Limits) (old new : State) (hour : ℕ) (command : Command)
    (answer : Reply) → Step limits old hour command answer new → KeepsOwn old new
step_keeps_own limits old new hour command (reply.Refused refused) step = λ are own.
    subst HavePublishedOwn (sym step.1) own
step_keeps_own limits old new hour command (reply.Done answer) step = λ are own.
    let made = step.1.0 in
    let clear =
    none_stands (causes limits old hour (ring_at command.ring old) command.act) step.0 in
    subst HavePublishedOwn (sym step.1.2) (put_among PublishedOwn old command.ring made own
    (by_found (ring_at command.ring old) command.act answer limits old command.ring made hour refl
    clear step.1.1 are own))
