-- A step of the builder changes no ring but that of its command, and takes no ring, no partition and
-- no published text away.
use Rattle.std.proofs.Common.{◌≡◌, ◌⊎◌, inl, inr, ℕ, ◌≤◌, ◌==◌, Bool, true, false, cond, List, []}
use Rattle.std.proofs.Common.{◌∷◌, Option, Some, None, is_some, filter, find, nat_eq}
use Rattle.std.proofs.Common.{nat_lt, refl, sym, ap, subst, ◌∙◌, arith, IsSomeAnd}
use Rattle.std.specs.Option.{option_map, option_or}
use Rattle.std.specs.Cmp.Lexicographic.{pointwise}
use Rattle.std.proofs.lemmas.Bool.{cases_Bool, ltb-false}
use Rattle.std.proofs.lemmas.Bool.Decides.{Decides-eqb}
use Rattle.std.proofs.lemmas.List.Folds.{find-append}
use Rattle.std.proofs.lemmas.Slice.Eq.{bytes_eq-Decides}
use Rattle.ring_model.specs.Import.{after_row, after_rows}
use Rattle.ring_model.specs.Publish.{among, is_published, with_published}
use Rattle.ring_model.specs.Ring.{RingRecord, added}
use Rattle.ring_model.specs.Rings.{ring_at, with_ring}
use Rattle.ring_words.specs.Rows.{has_place}
use Rattle.ring_words.specs.declared.device.Device.{Device}
use Rattle.ring_words.specs.declared.device.Row.{Row}
use Rattle.ring_words.specs.declared.request.Limits.{Limits}
use Rattle.ring_words.specs.declared.command.Command.{Command}
use Rattle.ring_words.specs.declared.command.Act.{Act}
use Rattle.ring_words.specs.declared.command.Act.TheVariants as act
use Rattle.ring_words.specs.declared.command.Done.{Done}
use Rattle.ring_words.specs.declared.command.Reply.{Reply}
use Rattle.ring_words.specs.declared.command.Reply.TheVariants as reply
use Rattle.ring_text.specs.Snapshot.{snapshot_of}
use Rattle.ring_text.specs.Spelling.{spelling}
use Rattle.builder.specs.Step.{Effect, RingEffect, State, Step}
use Rattle.builder.proofs.Others.{others_stay}
use Rattle.builder.proofs.RingAt.{ring_at-with}
use Rattle.store_rows.specs.Differences.{Grows, IsChangedAt, KeepsTexts}

abbrev Kept : RingRecord → RingRecord → Type 0
Kept old later = (old.power ≤ later.power) × KeepsTexts old later

abbrev text_at : ℕ → List (ℕ × List ℕ) → Option (List ℕ)
text_at version texts = option_map (λ (e : ℕ × List ℕ). e.1)
    (find (λ (e : ℕ × List ℕ). e.0 == version) texts)

kept_as : (old later : RingRecord) → later.power ≡ old.power → later.published ≡ old.published →
    Kept old later
kept_as old later power texts = (
  omega (arith, power),
  λ version text there. ap (text_at version) texts ∙ there,
)

record SameTexts (old new : RingRecord) : Type 0 where
  power : new.power ≡ old.power
  published : new.published ≡ old.published

row_if : (b : Bool) (ring : RingRecord) (row : Row) (devices : List Device)
    → SameTexts ring (cond b (record ring { devices = devices }) (added ring row))
row_if true ring row devices = record { power = refl; published = refl }
row_if false ring row devices = record { power = refl; published = refl }

rows_same : (ring : RingRecord) (rows : List Row) → SameTexts ring (after_rows ring rows)
rows_same ring [] = record { power = refl; published = refl }
rows_same ring (row ∷ rows) =
    let one = row_if (has_place row ring.devices) ring row _ in
    let rest = rows_same (after_row ring row) rows in
    record { power = rest.power ∙ one.power; published = rest.published ∙ one.published }

-- ---- a text that is put among others

first_of : {X Y : Type 0} (f : X → Y) (a b : Option X) (y : Y) → option_map f a ≡ Some y →
    option_map f (option_or a b) ≡ Some y
first_of f (Some x) b y h = h
first_of f None b y h = let never : None ≡ Some y = h in cc

abbrev chosen : (ℕ → Bool) → List (ℕ × List ℕ) → List (ℕ × List ℕ)
chosen keep texts = filter (λ (e : ℕ × List ℕ). keep e.0) texts

-- of texts that are chosen by their versions, a version that is chosen has its text
in_chosen : (version : ℕ) (keep : ℕ → Bool) (texts : List (ℕ × List ℕ)) → keep version ≡ true →
    text_at version (chosen keep texts) ≡ text_at version texts
in_chosen version keep [] kept = refl
in_chosen version keep (t ∷ ts) kept = by (t.0 == version) (keep t.0) refl refl
    (in_chosen version keep ts kept)
  where
    by : (b k : Bool) → (t.0 == version) ≡ b → keep t.0 ≡ k
        → text_at version (chosen keep ts) ≡ text_at version ts
        → text_at version (cond k (t ∷ chosen keep ts) (chosen keep ts))
        ≡ option_map (λ (e : ℕ × List ℕ). e.1) (cond b (Some t)
        (find (λ (e : ℕ × List ℕ). e.0 == version) ts))
    by true true here is rest = ap (λ b. option_map (λ (e : ℕ × List ℕ). e.1) (cond b (Some t)
        (find (λ (e : ℕ × List ℕ). e.0 == version) (chosen keep ts)))) here
    by true false here is rest = absurd (
        let same : t.0 ≡ version = (Decides-eqb t.0 version).0 here in
        let no : true ≡ false = sym kept ∙ ap keep (sym same) ∙ is in cc)
    by false true other is rest = ap (λ b. option_map (λ (e : ℕ × List ℕ). e.1) (cond b (Some t)
        (find (λ (e : ℕ × List ℕ). e.0 == version) (chosen keep ts)))) other ∙ rest
    by false false other is rest = rest

-- and one that isn't chosen is not found
not_chosen : (version : ℕ) (keep : ℕ → Bool) (texts : List (ℕ × List ℕ)) → keep version ≡ false →
    find (λ (e : ℕ × List ℕ). e.0 == version) (chosen keep texts) ≡ None
not_chosen version keep [] left = refl
not_chosen version keep (t ∷ ts) left = by (t.0 == version) (keep t.0) refl refl
    (not_chosen version keep ts left)
  where
    by : (b k : Bool) → (t.0 == version) ≡ b → keep t.0 ≡ k
        → find (λ (e : ℕ × List ℕ). e.0 == version) (chosen keep ts) ≡ None
        → find (λ (e : ℕ × List ℕ). e.0 == version) (cond k (t ∷ chosen keep ts) (chosen keep ts))
        ≡ None
    by true true here is rest = absurd (
        let same : t.0 ≡ version = (Decides-eqb t.0 version).0 here in
        let no : true ≡ false = sym is ∙ ap keep same ∙ left in cc)
    by false true other is rest = ap (λ b. cond b (Some t)
        (find (λ (e : ℕ × List ℕ). e.0 == version) (chosen keep ts))) other ∙ rest
    by b false at is rest = rest

-- a text under another version is still there
among_others : (version own : ℕ) (new text : List ℕ) (texts : List (ℕ × List ℕ)) →
    (own == version) ≡ false → text_at version texts ≡ Some text →
    text_at version (among own new texts) ≡ Some text
among_others version own new text texts other there =
    let p : ℕ × List ℕ → Bool = λ e. e.0 == version in
    let second : ℕ × List ℕ → List ℕ = λ e. e.1 in
    let lower = chosen (λ k. nat_lt k own) texts in
    let upper = chosen (λ k. nat_lt own k) texts in
    let whole : find p (among own new texts) ≡ option_or (find p lower)
    (find p ((own, new) ∷ upper)) = find-append p lower ((own, new) ∷ upper) in
    ap (option_map second) whole
    ∙ elim (cases_Bool (nat_lt version own)) [
      | inl less ↦ first_of second (find p lower) (find p ((own, new) ∷ upper)) text
          (in_chosen version (λ k. nat_lt k own) texts less ∙ there)
      | inr not_less ↦ elim (cases_Bool (nat_lt own version)) [
        | inl more ↦
            ap (λ o. option_map second (option_or o (find p ((own, new) ∷ upper))))
            (not_chosen version (λ k. nat_lt k own) texts not_less)
            ∙ ap (λ b. option_map second (cond b (Some (own, new)) (find p upper))) other
            ∙ in_chosen version (λ k. nat_lt own k) texts more ∙ there
        | inr not_more ↦ absurd (
            let most : own ≤ version = ltb-false version own not_less in
            let least : version ≤ own = ltb-false own version not_more in
            let same : own ≡ version = omega arith in
            let never : true ≡ false = sym ((Decides-eqb own version).1 same) ∙ other in
            cc
            )
      ]
    ]

-- where the ring's version isn't published, no text is under it
unpublished : (ring : RingRecord) (version : ℕ) (text : List ℕ) → is_published ring ≡ false →
    text_at version ring.published ≡ Some text → (ring.version == version) ≡ false
unpublished ring version text none there = elim (cases_Bool (ring.version == version)) [
  | inl here ↦ absurd (
      let same : ring.version ≡ version = (Decides-eqb ring.version version).0 here in
      let found : is_published ring ≡ true = ap is_some (ap (λ v. text_at v ring.published) same ∙
      there) in
      let never : true ≡ false = sym found ∙ none in
      cc
      )
  | inr other ↦ other
]

published_if : (b : Bool) (ring : RingRecord) (text : List ℕ) → is_published ring ≡ b →
    Kept ring (cond b ring (record ring { published = among ring.version text ring.published }))
published_if true ring text is = kept_as ring ring refl refl
published_if false ring text is = (
  omega arith,
  λ version old there. among_others version ring.version text old ring.published
      (unpublished ring version old is there) there,
)

-- ---- an act

-- An act leaves no fewer partitions, and the published texts as they were unless it publishes.
pub record LeavesTexts (a : Act) (name : List ℕ) (old new : RingRecord) : Type 0 where
  pub power : old.power ≤ new.power
  pub texts : (new.published ≡ old.published) ⊎ ((a ≡ act.Publish)
      × (new ≡ with_published old (spelling (snapshot_of name old))))

as_they_were : (a : Act) (name : List ℕ) (old new : RingRecord) → new.power ≡ old.power
    → new.published ≡ old.published → LeavesTexts a name old new
as_they_were a name old new power published = record {
  power = omega (arith, power);
  texts = inl published;
}

pub effect_leaves : (a : Act) (answer : Done) (name : List ℕ) (old new : RingRecord) (hour : ℕ)
    → RingEffect name hour old a answer new → LeavesTexts a name old new
effect_leaves (act.Add row) answer name old new hour effect =
    as_they_were (act.Add row) name old new (ap (λ (r : RingRecord). r.power) effect.0)
    (ap (λ (r : RingRecord). r.published) effect.0)
effect_leaves (act.OnDevice id what) answer name old new hour effect =
    as_they_were (act.OnDevice id what) name old new (ap (λ (r : RingRecord). r.power) effect.0)
    (ap (λ (r : RingRecord). r.published) effect.0)
effect_leaves (act.SetHours hours) answer name old new hour effect =
    as_they_were (act.SetHours hours) name old new (ap (λ (r : RingRecord). r.power) effect.0)
    (ap (λ (r : RingRecord). r.published) effect.0)
effect_leaves act.PretendPassed answer name old new hour effect =
    as_they_were act.PretendPassed name old new (ap (λ (r : RingRecord). r.power) effect.0)
    (ap (λ (r : RingRecord). r.published) effect.0)
effect_leaves act.RaisePower answer name old new hour effect = record {
  power = omega (arith, effect.0.power);
  texts = inl (ap (λ (r : RingRecord). r.published) effect.0.rest);
}
effect_leaves (act.Import rows) answer name old new hour effect =
    let rest = rows_same old rows in
    as_they_were (act.Import rows) name old new
    (ap (λ (r : RingRecord). r.power) effect.0 ∙ rest.power)
    (ap (λ (r : RingRecord). r.published) effect.0 ∙ rest.published)
effect_leaves (act.Rebalance seed) answer name old new hour effect =
    as_they_were (act.Rebalance seed) name old new
    (ap (λ (r : RingRecord). r.power) effect.0.after.rest)
    (ap (λ (r : RingRecord). r.published) effect.0.after.rest)
effect_leaves (act.RebalanceAs told) answer name old new hour effect =
    as_they_were (act.RebalanceAs told) name old new
    (ap (λ (r : RingRecord). r.power) effect.0.after.rest)
    (ap (λ (r : RingRecord). r.published) effect.0.after.rest)
effect_leaves act.Publish answer name old new hour effect = record {
  power = (subst (Kept old) (sym effect.0) (published_if (is_published old) old _ refl)).0;
  texts = inr (refl, effect.0);
}
effect_leaves a answer name old new hour effect = absurd effect

-- ---- a step

effect_keeps : (a : Act) (answer : Done) (name : List ℕ) (old new : RingRecord) (hour : ℕ)
    → RingEffect name hour old a answer new → Kept old new
effect_keeps a answer name old new hour effect =
    let leaves = effect_leaves a answer name old new hour effect in
    elim leaves.texts [
      | inl same ↦ (leaves.power, λ version text there. ap (text_at version) same ∙ there)
      | inr publishes ↦ subst (Kept old) (sym publishes.1)
          (published_if (is_published old) old _ refl)
    ]

step_grows : (limits : Limits) (old new : State) (hour : ℕ) (command : Command) (answer : Reply)
    → Step limits old hour command answer new → Grows old new
step_grows limits old new hour command (reply.Refused refused) step = λ name ring at.
    subst (λ o. IsSomeAnd o (Kept ring)) (sym (ap (ring_at name) step.1 ∙ at)) (kept_as ring ring
    refl refl)
step_grows limits old new hour command (reply.Done answer) step = λ name ring at.
    elim (cases_Bool (pointwise nat_eq name command.ring)) [
      | inl here ↦
          let same : name ≡ command.ring = (bytes_eq-Decides name command.ring).0 here in
          let made = step.1.0 in
          let now : ring_at name new ≡ Some made = ap (ring_at name) step.1.2 ∙ ap (λ n. ring_at n
          (with_ring old command.ring made)) same ∙ ring_at-with old command.ring made in
          let was : ring_at command.ring old ≡ Some ring = ap (λ n. ring_at n old) (sym same) ∙ at in
          subst (λ o. IsSomeAnd o (Kept ring)) (sym now) (effect_keeps command.act answer command.ring
          ring made hour (subst (λ o. Effect command.ring hour o command.act answer made) was
          step.1.1))
      | inr other ↦ subst (λ o. IsSomeAnd o (Kept ring)) (sym (others_stay limits old new hour command
          (reply.Done answer) name step (λ same. let no : true ≡ false = sym ((bytes_eq-Decides name
          command.ring).1 same) ∙ other in cc) ∙ at)) (kept_as ring ring refl refl)
    ]

pub step_changes : (limits : Limits) (old new : State) (hour : ℕ) (command : Command)
    (answer : Reply) → Step limits old hour command answer new → IsChangedAt command.ring old new
step_changes limits old new hour command answer step = record {
  others = λ other apart. others_stay limits old new hour command answer other step apart;
  grows = step_grows limits old new hour command answer step;
}
