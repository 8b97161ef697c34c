-- What a book tells.
use Rattle.std.specs.Prelude.{Err, Ok, Result}
use Rattle.request_book.specs.declared.book.Fault.{Fault}
use Rattle.request_book.specs.declared.book.Fault.TheVariants as fault
use Rattle.ring_messages.specs.declared.told.Told.{Told}
use Rattle.ring_messages.specs.declared.told.Told.TheVariants as told
use Rattle.ring_reads.specs.declared.reads.Hidden.{Hidden}
use Rattle.ring_reads.specs.declared.reads.Hidden.TheVariants as hidden
use Rattle.ring_words.specs.declared.command.Refusal.TheVariants as refusal
use Rattle.ring_words.specs.declared.command.Reply.{Reply}
use Rattle.ring_words.specs.declared.command.Reply.TheVariants as reply

-- what a call's answer is told as, where it is a fault
abbrev pub told_fault : Fault → Told
told_fault fault.NumberReused = told.NumberReused
told_fault fault.BookFull = told.BookFull
told_fault fault.NoMemory = told.NoMemory
told_fault fault.StoreFault = told.StoreFault
told_fault fault.Closed = told.Closed

-- what a delivery's answer is told as
abbrev pub told_of : Result Reply Fault → Told
told_of (Ok reply) = told.Reply reply
told_of (Err fault) = told_fault fault

-- What is told where nothing is shown. A published text that is that of no ring is told as a fault
-- of the store.
abbrev pub told_hidden : Hidden → Told
told_hidden hidden.NoRing = told.Reply (reply.Refused refusal.NoRing)
told_hidden hidden.NotAssigned = told.Reply (reply.Refused refusal.NotAssigned)
told_hidden hidden.NoVersion = told.NoVersion
told_hidden hidden.BadText = told.StoreFault
told_hidden hidden.TooFewDevices = told.Reply (reply.Refused refusal.TooFewDevices)
told_hidden hidden.NoMemory = told.NoMemory
