-- What the rows of a store say where its tables stand for a content.
use Rattle.std.proofs.Common.{◌≡◌, inl, inr, ℕ, ℤ, pos, Bool, true, false, cond, List, [], ◌∷◌, map}
use Rattle.std.proofs.Common.{Err, refl, sym, ap, subst, ◌∙◌, arith}
use Rattle.std.specs.FinMap.{entries, int_cmp-IsAntisymmetric}
use Rattle.std.specs.Cmp.{int_cmp_total}
use Rattle.ring_words.specs.Spelling.{Reads}
use Rattle.ring_words.specs.declared.spelling.SpellingFault.{SpellingFault}
use Rattle.ring_words.specs.declared.spelling.SpellingFault.TheVariants.{Bad, NoMemory}
use Rattle.store_model.specs.Contents.{Contents, meta_of}
use Rattle.store_model.specs.Entries as rows
use Rattle.store_model.proofs.Keys.{name_total, name_exact, name_number_total, name_number_exact}
use Rattle.store_model.proofs.Keys.{seat_total, seat_exact}
use Rattle.store_rows.specs.Stands.{AreRings, RingContent, IsHoldable}
use Rattle.store_rows.specs.Stands.{meta_value}
use Rattle.store_rows.specs.Judging.{AreRowsOf, Judges, StandFor}
use Rattle.store_rows.specs.Inner.Found.{ReadsRow}
use Rattle.store_rows.specs.Inner.Sayings.{SayPlaces, SayRings, contents_under}
use Rattle.store_rows.specs.declared.judging.StoreRows.{StoreRows}
use Rattle.store_rows.proofs.Maps.{entries_of}
use Rattle.store_rows.proofs.Ordered.{devices_sorted, parts_sorted, rings_sorted, texts_sorted, up}
use Rattle.store_rows.proofs.FirstOrdered.{moved_sorted, seats_sorted}

-- a store is of schema 2 or of schema 1
pub schema_of : (c : Contents) (content : RingContent) → StandFor c content →
    (f : Bool) × (c ≡ contents_under f content)
schema_of c content stand = elim stand.stands [
  | inl second ↦ (false, second)
  | inr first ↦ (true, first)
]

module _ (content : RingContent) (held : IsHoldable content) (sr : StoreRows) (c : Contents)
    (all : AreRowsOf sr c) where
  pub meta_said : (f : Bool) → c ≡ contents_under f content →
      map meta_of sr.meta.items ≡ (pos 1, meta_value (cond f 1 2) content.hour) ∷ []
  meta_said f are = all.meta ∙ ap (λ (x : Contents). entries x.meta) are ∙ entries_of int_cmp_total
      int_cmp-IsAntisymmetric ((pos 1, meta_value (cond f 1 2) content.hour) ∷ []) refl

  places_said : (f : Bool) → c ≡ contents_under f content → SayPlaces f sr content.state
  places_said true are = record {
    seats = all.seats ∙ ap (λ (x : Contents). entries x.seats) are ∙ entries_of seat_total
        seat_exact _ (seats_sorted content.state held.rings);
    moved = all.moved ∙ ap (λ (x : Contents). entries x.moved) are ∙ entries_of name_number_total
        name_number_exact _ (moved_sorted content.state held.rings);
    parts = all.parts ∙ ap (λ (x : Contents). entries x.parts) are ∙ entries_of name_number_total
        name_number_exact [] refl;
  }
  places_said false are = record {
    seats = all.seats ∙ ap (λ (x : Contents). entries x.seats) are ∙ entries_of seat_total
        seat_exact [] refl;
    moved = all.moved ∙ ap (λ (x : Contents). entries x.moved) are ∙ entries_of name_number_total
        name_number_exact [] refl;
    parts = all.parts ∙ ap (λ (x : Contents). entries x.parts) are ∙ entries_of name_number_total
        name_number_exact _ (parts_sorted content.state held.rings);
  }

  pub rings_said : (f : Bool) → c ≡ contents_under f content → SayRings f sr content.state
  rings_said f are = record {
    rings_are = all.rings ∙ ap (λ (x : Contents). entries x.rings) are ∙ entries_of name_total
        name_exact _ (rings_sorted content.state (up content.state held.rings));
    devices = all.devices ∙ ap (λ (x : Contents). entries x.devices) are ∙ entries_of
        name_number_total name_number_exact _ (devices_sorted content.state held.rings);
    published = all.published ∙ ap (λ (x : Contents). entries x.published) are ∙ entries_of
        name_number_total name_number_exact _ (texts_sorted content.state held.rings);
    places = places_said f are;
  }

same_flag : (f g : Bool) → ◌≡◌ {A = ℕ} (cond f 1 2) (cond g 1 2) → f ≡ g
same_flag true true e = refl
same_flag true false e = absurd (omega (arith, e))
same_flag false true e = absurd (omega (arith, e))
same_flag false false e = refl

-- one row of `meta` says one schema and one hour
pub same_meta : (f g : Bool) (h k : ℕ) →
    ◌≡◌ {A = List (ℤ × rows.Meta)} ((pos 1, meta_value (cond f 1 2) h) ∷ [])
    ((pos 1, meta_value (cond g 1 2) k) ∷ []) → (f ≡ g) × (h ≡ k)
same_meta f g h k same =
    let row : ◌≡◌ {A = ℤ × rows.Meta} (pos 1, meta_value (cond f 1 2) h)
    (pos 1, meta_value (cond g 1 2) k) = cc in
    let schemas : pos (cond f 1 2) ≡ pos (cond g 1 2) = ap (λ (m : ℤ × rows.Meta). m.1.schema) row in
    let schema : ◌≡◌ {A = ℕ} (cond f 1 2) (cond g 1 2) = cc in
    let hours : pos h ≡ pos k = ap (λ (m : ℤ × rows.Meta). m.1.hour) row in
    let hour : h ≡ k = cc in
    (same_flag f g schema, hour)

-- where the row of `meta` is read as that of a schema, the other rows say the content's rings in it
pub rings_at : (content : RingContent) (c : Contents) (stand : StandFor c content) (sr : StoreRows)
    (all : AreRowsOf sr c) (g : Bool) (hour : ℕ)
    → map meta_of sr.meta.items ≡ (pos 1, meta_value (cond g 1 2) hour) ∷ []
    → AreRings content.state × SayRings g sr content.state
rings_at content c stand sr all g hour meta =
    let held = stand.holdable in
    let f = schema_of c content stand in
    let same = same_meta f.0 g content.hour hour (sym (meta_said content held sr c all f.0 f.1) ∙ meta)
    in (
      held.rings,
      subst (λ g. SayRings g sr content.state) same.0 (rings_said content held sr c all f.0 f.1),
    )

-- Judging fails where reading what each content gives fails.
pub spelling_judges : {X : Type 0} (Spells : X → Type 0) (c : Contents) (fault : SpellingFault) →
    Reads Spells (Err fault) → ((content : RingContent) → StandFor c content → (x : X) × Spells x) →
    Judges c (Err fault)
spelling_judges Spells c Bad read gives = λ content stand. let x = gives content stand in
    read x.0 x.1
spelling_judges Spells c NoMemory read gives = tt

pub rows_judge : {X V : Type 0} (value : X → V) (Holds : V → Type 0) (c : Contents)
    (fault : SpellingFault) → ReadsRow value Holds (Err fault)
    → ((content : RingContent) → StandFor c content → (v : V) × Holds v) → Judges c (Err fault)
rows_judge value Holds c Bad read gives = λ content stand. let v = gives content stand in read v.0 v.1
rows_judge value Holds c NoMemory read gives = tt
