-- Tables, and those that tell no rows.
use Rattle.std.proofs.Common.{◌≡◌, ◌≢◌, List, inl, inr, refl, subst, ℕ}
use Rattle.csv_import.specs.Rows.{AreRows, IsWrong, records_of}
use Rattle.csv_import.specs.declared.fault.CsvFault.{CsvFault}
use Rattle.csv_import.specs.declared.fault.CsvFault.TheVariants as csv
use Rattle.programs.specs.Inner.Forms.{HasNoRows, text_fault, unread_table}
use Rattle.ring_words.specs.declared.device.Row.{Row}
use Rattle.program_stores.specs.Faults.{IsFileFault}
use Rattle.programs.specs.Tables.{HoldsShort, HoldsTable, IsBadTable, longest_table}
use Rattle.program_stores.specs.declared.faults.ProgramFault.{ProgramFault}
use Rattle.program_stores.specs.declared.faults.ProgramFault.TheVariants as fault

module _ (Holds : List ℕ → Type 0) (IsUnread : ℕ → ProgramFault → Type 0) where
  wrong_text : (text : List ℕ) (why : CsvFault) → HoldsShort Holds longest_table text →
      (why ≢ csv.ReadFailed → IsWrong (records_of text) why)
      → IsBadTable IsUnread Holds (text_fault why)
  wrong_text text csv.BadHeader short wrong = (text, short, wrong (λ e. cc))
  wrong_text text (csv.BadRow row) short wrong = (text, short, wrong (λ e. cc))
  wrong_text text (csv.BadField row column) short wrong = (text, short, wrong (λ e. cc))
  wrong_text text csv.ReadFailed short wrong = tt
  wrong_text text csv.NoMemory short wrong = tt

  -- what is wrong with the text that was given
  pub bad_table : (text given : List ℕ) (why : CsvFault) → given ≡ text
      → HoldsShort Holds longest_table text
      → (why ≢ csv.ReadFailed → IsWrong (records_of given) why)
      → IsBadTable IsUnread Holds (text_fault why)
  bad_table text given why is short wrong = wrong_text text why short
      (subst (λ (t : List ℕ). why ≢ csv.ReadFailed → IsWrong (records_of t) why) is wrong)

  -- what the text that was given tells
  pub good_table : (text given : List ℕ) (rows : List Row) → given ≡ text
      → HoldsShort Holds longest_table text → AreRows (records_of given) rows
      → HoldsTable Holds rows
  good_table text given rows is short are = (
    text,
    short,
    subst (λ (t : List ℕ). AreRows (records_of t) rows) is are,
  )

  -- why no text was given
  pub lost_table : (why : ProgramFault) → IsUnread longest_table why → IsFileFault why
      → HasNoRows Holds IsUnread (unread_table why)
  lost_table fault.NoFile unread is = (inl refl, unread)
  lost_table fault.TooLong unread is = (inr refl, unread)
  lost_table fault.NoMemory unread is = tt
  lost_table fault.ReadFailed unread is = unread
  lost_table fault.NoRing unread is = absurd is
  lost_table fault.RingExists unread is = absurd is
  lost_table fault.TooManyRings unread is = absurd is
  lost_table fault.TooFewDevices unread is = absurd is
  lost_table fault.NotAssigned unread is = absurd is
  lost_table fault.Unreadable unread is = absurd is
  lost_table fault.StoreFault unread is = absurd is
  lost_table fault.BadStore unread is = absurd is
  lost_table fault.NetFailed unread is = absurd is
  lost_table fault.BadPath unread is = absurd is
  lost_table fault.BadText unread is = absurd is
  lost_table fault.NoVersion unread is = absurd is
  lost_table fault.ClockAhead unread is = absurd is
  lost_table fault.WriteFailed unread is = absurd is
