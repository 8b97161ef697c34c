-- What was done over the keeper of a store that was closed.
use Rattle.std.proofs.Common.{◌≡◌, List, Option, Ok, Err, ℕ, subst, sym}
use Rattle.std.specs.Prelude.{IfErr, OnOk}
use Rattle.byte_streams.specs.declared.counted.CountedReader.{CountedReader}
use Rattle.byte_streams.specs.declared.counted.CountedWriter.{CountedWriter}
use Rattle.byte_streams.specs.declared.fault.StreamFault.{StreamFault}
use Rattle.ring_reads.specs.Holding.{Holding}
use Rattle.ring_messages.specs.declared.told.Told.{Told}
use Rattle.ring_words.specs.declared.device.Row.{Row}
use Rattle.programs.specs.Importing.{Imports}
use Rattle.program_stores.specs.Faults.{IsCloseFault, IsStoreFault}
use Rattle.program_stores.specs.Stores.{Closing}
use Rattle.programs.specs.Running.{AnswersLines, StopsLines}
use Rattle.programs.specs.Showing.{IsAsked}
use Rattle.program_stores.specs.declared.faults.ProgramFault.{ProgramFault}
use Rattle.program_stores.specs.declared.faults.ProgramFault.TheVariants as fault
use Rattle.programs.specs.declared.importing.ImportAsk.{ImportAsk}
use Rattle.programs.proofs.Runs.{answers, asked, imports, stops}
use Rattle.ring_book.specs.Book.{Keeping}

-- what holds of a keeper that was closed well
pub on_closed : (closed : Closing) (Ends : Closing → Type 0) (whole : Type 0)
    → (Ends (Ok tt) → whole) → Ends closed → OnOk closed whole
on_closed (Ok value) Ends whole make ended = make ended
on_closed (Err why) Ends whole make ended = tt

-- and where it is known to have been
pub at_end : (closed : Closing) (Ends : Closing → Type 0) → closed ≡ Ok tt → Ends closed
    → Ends (Ok tt)
at_end closed Ends is = subst Ends is

-- and where it is known that this failed
pub unclosed : (closed : Closing) (Ends : Closing → Type 0) (why : ProgramFault) → closed ≡ Err why
    → Ends closed → Ends (Err why)
unclosed closed Ends why is = subst Ends is

-- what holds of a keeper whose closing failed
pub on_unclosed : (closed : Closing) (Ends : Closing → Type 0) (Whole : ProgramFault → Type 0)
    → ((why : ProgramFault) → IsCloseFault why → Ends (Err why) → Whole why) → Ends closed
    → IfErr closed IsCloseFault → IfErr closed Whole
on_unclosed (Ok value) Ends Whole make ended is = tt
on_unclosed (Err why) Ends Whole make ended is = make why is ended

-- the fault of a closing is one of the store's
pub unclosed_store : (why : ProgramFault) → IsCloseFault why → IsStoreFault why
unclosed_store fault.StoreFault is = tt
unclosed_store fault.NoMemory is = tt
unclosed_store fault.NoFile is = absurd is
unclosed_store fault.ReadFailed is = absurd is
unclosed_store fault.TooLong is = absurd is
unclosed_store fault.NoRing is = absurd is
unclosed_store fault.RingExists is = absurd is
unclosed_store fault.TooManyRings is = absurd is
unclosed_store fault.TooFewDevices is = absurd is
unclosed_store fault.NotAssigned is = absurd is
unclosed_store fault.Unreadable is = absurd is
unclosed_store fault.BadStore is = absurd is
unclosed_store fault.NetFailed is = absurd is
unclosed_store fault.BadPath is = absurd is
unclosed_store fault.BadText is = absurd is
unclosed_store fault.NoVersion is = absurd is
unclosed_store fault.ClockAhead is = absurd is
unclosed_store fault.WriteFailed is = absurd is

-- The keeper of a store begins so, and another one, which was made of it, is left so.
module _ {K : Type 0} (g : Keeping K) (Begins Ends : K → Type 0) (kept left : K)
    (is : Begins kept) (ends : Ends left) where
  same_kept : (keeper : K) → keeper ≡ kept → Begins keeper
  same_kept keeper same = subst Begins (sym same) is

  same_left : (keeper : K) → keeper ≡ left → Ends keeper
  same_left keeper same = subst Ends (sym same) ends

  module _ {R W : Type 0} (remaining : R → Option (List ℕ)) (contents : W → Option (List ℕ))
      (reader late_reader : CountedReader R) (writer late_writer : CountedWriter W) where
    pub answers_kept : AnswersLines g (λ k. k ≡ kept) (λ k. k ≡ left) remaining contents reader
        late_reader writer late_writer
        → AnswersLines g Begins Ends remaining contents reader late_reader writer late_writer
    answers_kept all = answers g (λ k. k ≡ kept) Begins (λ k. k ≡ left) Ends same_kept same_left
        remaining contents reader late_reader writer late_writer all

    pub stops_kept : (why : StreamFault)
        → StopsLines g (λ k. k ≡ kept) (λ k. k ≡ left) remaining contents reader late_reader writer
        late_writer why
        → StopsLines g Begins Ends remaining contents reader late_reader writer late_writer why
    stops_kept why all = stops g (λ k. k ≡ kept) Begins (λ k. k ≡ left) Ends same_kept same_left
        remaining contents reader late_reader writer late_writer why all

  pub asked_kept : (Tells : Holding → Type 0)
      → IsAsked g (λ k. k ≡ kept) (λ k. k ≡ left) Tells → IsAsked g Begins Ends Tells
  asked_kept Tells a = asked g (λ k. k ≡ kept) Begins (λ k. k ≡ left) Ends same_kept same_left Tells a

  pub imports_kept : (ask : ImportAsk) (rows : List Row) (hour : ℕ) (t : Told)
      → Imports g (λ k. k ≡ kept) (λ k. k ≡ left) ask rows hour t
      → Imports g Begins Ends ask rows hour t
  imports_kept ask rows hour t i = imports g (λ k. k ≡ kept) Begins (λ k. k ≡ left) Ends same_kept
      same_left ask rows hour t i
