-- What a served stream is told as, where the items' texts are told in another way.
use Rattle.std.proofs.Common.{ℕ, List, Option}
use Rattle.byte_streams.specs.Serving.{Served, ServedInPart, ServedSoFar, Stopped}
use Rattle.byte_streams.specs.declared.fault.StreamFault.{StreamFault}
use Rattle.byte_streams.specs.declared.fault.StreamFault.TheVariants.{NoMemory, ReadFailed}
use Rattle.byte_streams.specs.declared.fault.StreamFault.TheVariants.{WriteFailed}

module _ {I S : Type 0} (AreItems : List ℕ → List I → Type 0) (HaveCome : List ℕ → List I → Type 0)
    (written_as : List (List ℕ) → List ℕ) (Get Other : S → List I → List (List ℕ) → S → Type 0)
    (told_as : (old : S) (items : List I) (texts : List (List ℕ)) (new : S) →
    Get old items texts new → Other old items texts new) where
  pub served_as : (known before after : Option (List ℕ)) (old new : S) (count : ℕ)
      → Served AreItems HaveCome written_as Get known before after old new count
      → Served AreItems HaveCome written_as Other known before after old new count
  served_as known before after old new count s = record {
    bytes = s.bytes;
    told = s.told;
    items = s.items;
    are_items = s.are_items;
    texts = s.texts;
    get = told_as old s.items s.texts new s.get;
    written = s.written;
    count_is = s.count_is;
  }

  pub stopped_as : (known left before after : Option (List ℕ)) (old new : S) (untouched : Type 0)
      (fault : StreamFault)
      → Stopped AreItems HaveCome written_as Get known left before after old new untouched fault
      → Stopped AreItems HaveCome written_as Other known left before after old new untouched fault
  stopped_as known left before after old new untouched ReadFailed s = record {
    bytes = s.bytes;
    came = s.came;
    items = s.items;
    have_come = s.have_come;
    texts = s.texts;
    get = told_as old s.items s.texts new s.get;
    written = s.written;
  }
  stopped_as known left before after old new untouched WriteFailed s = record {
    bytes = s.bytes;
    told = s.told;
    answered = s.answered;
    unanswered = s.unanswered;
    are_items = s.are_items;
    texts = s.texts;
    get = told_as old s.answered s.texts new s.get;
    written = s.written;
  }
  stopped_as known left before after old new untouched NoMemory s = s
