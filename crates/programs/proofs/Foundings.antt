-- What founding a store comes to.
use Rattle.std.proofs.Common.{◌≡◌, ◌<◌, ◌+◌, ◌++◌, ◌∙◌, ◌∷◌, ◌⊎◌, [], Err, List, Ok, Option, Result}
use Rattle.std.proofs.Common.{ap, arith, drop, get_or, inl, inr, length, max, refl, subst, sym, take, ℕ}
use native.Mathlib.Numerals.{unary_clauses}
use Rattle.std.specs.Borrow.{Bor}
use Rattle.std.specs.Prelude.{IfErr}
use Rattle.std.proofs.lemmas.List.{drop_more, map-append, map_more, take-append-drop}
use Rattle.builder.specs.Step.{State}
use Rattle.byte_streams.specs.Counted.{one_more}
use Rattle.byte_streams.specs.declared.counted.CountedWriter.{CountedWriter}
use Rattle.ring_book.specs.Book.{Keeping}
use Rattle.ring_founding.specs.Founding.{AreFounded, AreUnfounded}
use Rattle.ring_founding.specs.declared.founding.FoundFault.{FoundFault}
use Rattle.ring_founding.specs.declared.founding.Terms.{Terms}
use Rattle.ring_text.specs.Snapshot.{SnapshotRecord}
use Rattle.programs.proofs.Renewals.{renews}
use Rattle.program_stores.specs.Faults.{IsStoreFault, found_fault}
use Rattle.program_stores.specs.Stores.{Closing}
use Rattle.programs.specs.Begun.{IsClosedWhole, OpensNone, OpensOne, OpensTwo}
use Rattle.programs.specs.Founding.{HoldRings}
use Rattle.programs.specs.Inner.Founding.{FailsOverFound, FailsTellingNoRing, FailsTellingNoRings}
use Rattle.programs.specs.Performed.{texts_given}
use Rattle.programs.specs.Renewing.{IsRead}
use Rattle.program_stores.specs.declared.faults.ProgramFault.{ProgramFault}
use Rattle.program_stores.specs.declared.faults.ProgramFault.TheVariants as fault

-- ---- texts of files

-- the rings of these files, and of one more
hold_more : (Holds : List ℕ → List ℕ → Type 0) (names : List (List ℕ))
    (snapshots : List SnapshotRecord) (name : List ℕ) (snapshot : SnapshotRecord)
    → HoldRings Holds names snapshots → HoldRings Holds (name ∷ []) (snapshot ∷ [])
    → HoldRings Holds (names ++ name ∷ []) (snapshots ++ snapshot ∷ [])
hold_more Holds [] snapshots name snapshot none one =
    subst (λ xs. HoldRings Holds (name ∷ []) (xs ++ snapshot ∷ [])) (sym none) one
hold_more Holds (first ∷ names) snapshots name snapshot all one = (
  all.0,
  all.1,
  all.2 ++ snapshot ∷ [],
  ap (λ xs. xs ++ snapshot ∷ []) all.3,
  all.4,
  all.5,
  hold_more Holds names all.2 name snapshot all.6 one,
)

module _ (Holds : List ℕ → List ℕ → Type 0) (names : List (Bor (List ℕ))) (i : ℕ)
    (d : Bor (List ℕ)) (lt : i < length names) (snapshots : List SnapshotRecord)
    (held : HoldRings Holds (texts_given (take i names)) snapshots) where
  -- the next file tells its ring
  pub held_pushed : (snapshot : SnapshotRecord)
      → HoldRings Holds ((get_or names i d).now ∷ []) (snapshot ∷ [])
      → HoldRings Holds (texts_given (take (i + 1) names)) (snapshots ++ snapshot ∷ [])
  held_pushed snapshot one =
      let more : texts_given (take (i + 1) names) ≡ texts_given (take i names)
      ++ (get_or names i d).now ∷ [] = map_more (λ (text : Bor (List ℕ)). text.now) names i d lt in
      rw more (hold_more Holds (texts_given (take i names)) snapshots (get_or names i d).now snapshot
      held one)

  -- the next file tells none
  pub no_rings_at : {E : Type 0} (IsUnread : List ℕ → ℕ → ProgramFault → Type 0)
      (told : E → Option (List ℕ)) (errors late : CountedWriter E) (why : ProgramFault)
      → FailsTellingNoRing Holds IsUnread told errors late (get_or names i d).now why
      → FailsTellingNoRings Holds IsUnread told errors late (texts_given names) why
  no_rings_at IsUnread told errors late why failed = (
    record {
      before = texts_given (take i names);
      name = (get_or names i d).now;
      behind = texts_given (drop (i + 1) names);
      names_are = ap texts_given (sym (take-append-drop i names)
          ∙ ap (λ (ns : List (Bor (List ℕ))). take i names ++ ns) (drop_more names i d lt))
          ∙ map-append (λ (text : Bor (List ℕ)). text.now) (take i names)
          (get_or names i d ∷ drop (i + 1) names);
      snapshots = snapshots;
      hold = held;
      failed = failed.0;
    },
    failed.1,
  )

-- no memory was left for the ring of one
pub no_memory_at : {E : Type 0} (Holds : List ℕ → List ℕ → Type 0)
    (IsUnread : List ℕ → ℕ → ProgramFault → Type 0) (told : E → Option (List ℕ))
    (errors late : CountedWriter E) (names : List (Bor (List ℕ))) (i : ℕ) (snapshots : List SnapshotRecord)
    → i < length names → HoldRings Holds (texts_given (take i names)) snapshots → late ≡ errors
    → FailsTellingNoRings Holds IsUnread told errors late (texts_given names) fault.NoMemory
no_memory_at Holds IsUnread told errors late [] i snapshots lt held same = absurd (omega (arith, lt))
no_memory_at Holds IsUnread told errors late (first ∷ names) i snapshots lt held same =
    no_rings_at Holds (first ∷ names) i first lt snapshots held IsUnread told errors late fault.NoMemory
    (inr (inl refl), same)

-- ---- stores

-- the hour before all others is the least
least : (hour : ℕ) → max 0 hour ≡ hour
least hour = simp unary_clauses refl

-- Founding over no rings, from that hour, failed.
pub fails_over_nothing : (terms : Terms) (snapshots : List SnapshotRecord)
    (IsUnmade : State → ℕ → ProgramFault → Type 0) (before after : ℕ) (old : State) (hour : ℕ)
    → old ≡ [] → hour ≡ 0 → (why : ProgramFault)
    → FailsOverFound terms snapshots IsUnmade before after old hour why
    → (((cause : FoundFault) × (why ≡ found_fault cause) × AreUnfounded terms [] snapshots cause)
    × OpensNone before after)
    ⊎ (IsStoreFault why × ((rings : State) × AreFounded terms [] snapshots rings
    × IsUnmade rings terms.hour why) × OpensOne before after)
fails_over_nothing terms snapshots IsUnmade before after old hour none first why (inl (failed, same)) =
    inl ((failed.0, failed.1, subst (λ o. AreUnfounded terms o snapshots failed.0) none failed.2), same)
fails_over_nothing terms snapshots IsUnmade before after old hour none first why (inr (store, made, one)) =
    inr (
      store,
      (
        made.0,
        subst (λ o. AreFounded terms o snapshots made.0) none made.1,
        subst (λ h. IsUnmade made.0 h why) (ap (λ h. max h terms.hour) first ∙ least terms.hour) made.2,
      ),
      one,
    )

-- a store that wasn't made of rings that were founded
pub unmade_founded : {A : Type 0} (terms : Terms) (snapshots : List SnapshotRecord)
    (IsUnmade : State → ℕ → ProgramFault → Type 0) (before after : ℕ) (old rings : State) (hour : ℕ)
    (made : Result A ProgramFault) → AreFounded terms old snapshots rings → OpensOne before after
    → IfErr made (IsUnmade rings (max hour terms.hour)) → IfErr made IsStoreFault
    → IfErr made (FailsOverFound terms snapshots IsUnmade before after old hour)
unmade_founded terms snapshots IsUnmade before after old rings hour (Ok made) founded one unmade store =
    tt
unmade_founded terms snapshots IsUnmade before after old rings hour (Err why) founded one unmade store =
    inr (store, (rings, founded, unmade), one)

-- Founding over rings that were read of a store failed, where one was opened before.
module _ {K : Type 0} (g : Keeping K) (Begins : K → Type 0) (Ends : K → Closing → Type 0)
    (IsUnmade : State → ℕ → ProgramFault → Type 0) (Unread : ProgramFault → Type 0) (terms : Terms)
    (snapshots : List SnapshotRecord) (before mid after : ℕ) (rings : State) (hour : ℕ)
    (opened : OpensOne before mid)
    (read : IsRead g Begins (IsClosedWhole g Ends) (λ r h. (r ≡ rings) × (h ≡ hour))) where
  pub fails_over_read : (why : ProgramFault)
      → FailsOverFound terms snapshots IsUnmade mid after rings hour why
      → Unread why
      ⊎ (((cause : FoundFault) × (why ≡ found_fault cause) × IsRead g Begins
      (IsClosedWhole g Ends) (λ old late. AreUnfounded terms old snapshots cause))
      × OpensOne before after)
      ⊎ (IsStoreFault why × IsRead g Begins (IsClosedWhole g Ends)
      (λ old late. (made : State) × AreFounded terms old snapshots made
      × IsUnmade made (max late terms.hour) why) × OpensTwo before after)
  fails_over_read why (inl (none, same)) = inr (inl (
    (
      none.0,
      none.1,
      renews g Begins (IsClosedWhole g Ends) (λ old late. AreUnfounded terms old snapshots none.0) rings
          hour read none.2,
    ),
    same ∙ opened,
  ))
  fails_over_read why (inr (store, unmade, one)) = inr (inr (
    store,
    renews g Begins (IsClosedWhole g Ends) (λ old late. (made : State) × AreFounded terms old snapshots
        made × IsUnmade made (max late terms.hour) why) rings hour read unmade,
    one ∙ ap one_more opened,
  ))
