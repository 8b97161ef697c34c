-- What the parts of the service do with a body.
use Rattle.std.specs.Prelude.{◌≡◌, ◌≢◌, ℕ, List, Some, None, Result, Ok, Err}
use Rattle.builder.specs.Life.{IsProperDelivery}
use Rattle.builder.specs.Message.{IsMessage}
use Rattle.csv_import.specs.Rows.{AreRows, IsWrong, records_of}
use Rattle.csv_import.specs.declared.fault.CsvFault.{CsvFault}
use Rattle.csv_import.specs.declared.fault.CsvFault.TheVariants as csv
use Rattle.ring_book.specs.Book.{Asked, Keeping, Made, RingBook}
use Rattle.ring_book.specs.Told.{told_of}
use Rattle.request_book.specs.Call.{Deliver, Load}
use Rattle.request_book.specs.declared.book.Fault.{Fault}
use Rattle.ring_messages.specs.declared.told.Told.{Told}
use Rattle.ring_messages.specs.declared.told.Told.TheVariants as told
use Rattle.ring_words.specs.declared.command.Act.TheVariants as act
use Rattle.ring_words.specs.declared.command.Command.{Command}
use Rattle.ring_words.specs.declared.command.Reply.{Reply}
use Rattle.ring_words.specs.declared.device.Row.{Row}
use Rattle.ring_words.specs.declared.request.Key.{Key}
use Rattle.std.specs.declared.alloc.AllocError.{AllocError}
use Rattle.http_api.specs.Http.{told_csv}

module _ {K C : Type 0} (kept : Keeping K)
    (tells : C → ℕ → C → Type 0) where
  -- A command is delivered at the hour that the clock tells, and its answer is told so. Both are such
  -- as there are.
  pub record DeliversAt (early late : C) (old new : RingBook kept) (key : Key)
      (command : Command) (told : Told) : Type 0 where
    pub hour : ℕ
    pub clock : tells early hour late
    pub answer : Result Reply Fault
    pub told_is : told ≡ told_of answer
    pub made : Made kept old new
        (Some (Deliver (record { hour = hour; key = key; command = command }) answer))
    pub proper : IsProperDelivery (record { hour = hour; key = key; command = command })

module _ {C : Type 0} (tells : C → ℕ → C → Type 0) where
  -- A message in a body is delivered and told, or told to be none.
  abbrev pub IsMessageTold : C → C → List ℕ → Asked → Result Told AllocError → Type 0
  IsMessageTold early late body None (Ok t) =
      (late ≡ early) × ((key : Key) (command : Command) → IsMessage body key command → ⊥) ×
      (t ≡ told.Unreadable)
  IsMessageTold early late body None (Err refused) = late ≡ early
  IsMessageTold early late body (Some (Deliver delivery answer)) (Ok t) =
      tells early delivery.hour late × IsMessage body delivery.key delivery.command ×
      (t ≡ told_of answer) × IsProperDelivery delivery
  IsMessageTold early late body (Some (Deliver delivery answer)) (Err refused) = ⊥
  IsMessageTold early late body (Some (Load answer)) result = ⊥

  -- The table in a body is delivered as an import and told, or told to be none.
  abbrev pub IsImportTold : C → C → List ℕ → Key → List ℕ → Asked → Result Told AllocError → Type 0
  IsImportTold early late ring key body None (Ok t) =
      (late ≡ early) × ((fault : CsvFault) × (fault ≢ csv.NoMemory) ×
      IsWrong (records_of body) fault × (t ≡ told_csv fault))
  IsImportTold early late ring key body None (Err refused) = late ≡ early
  IsImportTold early late ring key body (Some (Deliver delivery answer)) (Ok t) =
      tells early delivery.hour late × (delivery.key ≡ key)
      × ((rows : List Row) × AreRows (records_of body) rows ×
      (delivery.command ≡ record { ring = ring; act = act.Import rows }))
      × (t ≡ told_of answer) × IsProperDelivery delivery
  IsImportTold early late ring key body (Some (Deliver delivery answer)) (Err refused) = ⊥
  IsImportTold early late ring key body (Some (Load answer)) result = ⊥
