-- The log of a book: its entries as deliveries that may be run again, and what they were answered.
use Rattle.std.specs.Prelude.{List, Ok, Result, map}
use Rattle.ring_words.specs.declared.request.Delivery.{Delivery}
use Rattle.request_book.specs.declared.book.Fault.{Fault}
use Rattle.request_book.specs.declared.entry.Entry.{Entry}

-- an entry as a delivery, which comes at the hour that the entry was decided at
abbrev pub delivery_of : {C R : Type 0} → Entry C R → Delivery C
delivery_of entry = record { hour = entry.hour; key = entry.key; command = entry.command }

-- entries as deliveries, in their order
abbrev pub log_deliveries : {C R : Type 0} → List (Entry C R) → List (Delivery C)
log_deliveries book = map delivery_of book

-- the kept replies of entries, in their order
abbrev pub log_answers : {C R : Type 0} → List (Entry C R) → List (Result R Fault)
log_answers book = map (λ entry. Ok entry.reply) book
