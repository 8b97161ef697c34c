-- What renewing a store comes to.
use Rattle.std.proofs.Common.{◌≡◌, inr, Err, Ok, Result, ℕ, subst, sym}
use Rattle.std.specs.Prelude.{IfErr, ⊤}
use Rattle.builder.specs.Step.{State}
use Rattle.program_stores.specs.Faults.{IsStoreFault}
use Rattle.program_stores.specs.Stores.{Closing}
use Rattle.programs.specs.Begun.{IsClosedWhole, OpensTwo}
use Rattle.programs.specs.Renewing.{FailsToRenew, IsRead, Renews}
use Rattle.program_stores.specs.declared.faults.ProgramFault.{ProgramFault}
use Rattle.ring_book.specs.Book.{Keeping}

-- keepers that are known were read and left, and less is known of them
pub read_kept : {K : Type 0} (g : Keeping K) (Begins Ends : K → Type 0) (kept left : K)
    → Begins kept → Ends left → (IsSo : State → ℕ → Type 0)
    → IsRead g (λ k. k ≡ kept) (λ k. k ≡ left) IsSo → IsRead g Begins Ends IsSo
read_kept g Begins Ends kept left is ends IsSo read = record {
  keeper = read.keeper;
  later = read.later;
  opened = subst Begins (sym read.opened) is;
  ended = subst Ends (sym read.ended) ends;
  stays_sound = read.stays_sound;
  stays = read.stays;
  left = read.left;
  is_so = read.is_so;
}

-- a store that was read, and one that was made of what was read
pub renews : {K : Type 0} (old : Keeping K) (Begins Ends : K → Type 0)
    (IsMade : State → ℕ → Type 0) (rings : State) (hour : ℕ)
    → IsRead old Begins Ends (λ r h. (r ≡ rings) × (h ≡ hour)) → IsMade rings hour
    → Renews old Begins Ends IsMade
renews old Begins Ends IsMade rings hour read made = record {
  keeper = read.keeper;
  later = read.later;
  opened = read.opened;
  ended = read.ended;
  stays_sound = read.stays_sound;
  stays = read.stays;
  left = read.left;
  is_so = λ sound. let so = read.is_so sound in
      subst (λ r. IsMade r (old.content read.keeper).hour) (sym so.0)
      (subst (λ h. IsMade rings h) (sym so.1) made);
}

-- a store that was read stays as it was, whatever was found
pub read_anyhow : {K : Type 0} (g : Keeping K) (Begins Ends : K → Type 0)
    (IsSo : State → ℕ → Type 0) → IsRead g Begins Ends IsSo → IsRead g Begins Ends (λ rings hour. ⊤)
read_anyhow g Begins Ends IsSo read = record {
  keeper = read.keeper;
  later = read.later;
  opened = read.opened;
  ended = read.ended;
  stays_sound = read.stays_sound;
  stays = read.stays;
  left = read.left;
  is_so = λ sound. tt;
}

-- a store that was read, and one that couldn't be made of what was read
pub fails_unmade : {A K : Type 0} (old : Keeping K) (Begins : K → Type 0)
    (Ends : K → Closing → Type 0) (Refuses : ProgramFault → Type 0)
    (IsUnmade : State → ℕ → ProgramFault → Type 0) (before after : ℕ) (rings : State) (hour : ℕ)
    (made : Result A ProgramFault) → OpensTwo before after
    → IsRead old Begins (IsClosedWhole old Ends) (λ r h. (r ≡ rings) × (h ≡ hour))
    → IfErr made (IsUnmade rings hour) → IfErr made IsStoreFault
    → IfErr made (FailsToRenew old Begins Ends Refuses IsUnmade before after)
fails_unmade old Begins Ends Refuses IsUnmade before after rings hour (Ok value) two read unmade
    store = tt
fails_unmade old Begins Ends Refuses IsUnmade before after rings hour (Err why) two read unmade
    store = inr (
      store,
      renews old Begins (IsClosedWhole old Ends) (λ r h. IsUnmade r h why) rings hour read unmade,
      two,
    )
