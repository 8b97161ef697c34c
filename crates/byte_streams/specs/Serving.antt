-- What serving a stream does, whatever its items are: lines, or requests of another protocol.
use Rattle.std.specs.Prelude.{◌≡◌, ℕ, ◌-◌, ◌^◌, min, List, ◌++◌, length, ⊤, Option, Some, None}
use Rattle.std.specs.Io.KnownBytes.{Appends, Consumes}
use Rattle.byte_streams.specs.declared.fault.StreamFault.{StreamFault}
use Rattle.byte_streams.specs.declared.fault.StreamFault.TheVariants.{ReadFailed, WriteFailed}
use Rattle.byte_streams.specs.declared.fault.StreamFault.TheVariants.{NoMemory}
use Rattle.byte_streams.specs.Writing.{WritesBeginning}

-- where a reader tells its bytes, they are these
abbrev pub Tells : Option (List ℕ) → List ℕ → Type 0
Tells None bytes = ⊤
Tells (Some known) bytes = known ≡ bytes

-- Answers are counted up to this number, which then stays.
abbrev pub greatest_count : ℕ
greatest_count = 2 ^ 32 - 1

-- A protocol says which items the bytes of a whole stream are, which items are whole in the bytes
-- that came so far, and what answers are written as. That these items may get these texts, while
-- one state becomes the other, is what the server of the protocol promises.
module _ {I S : Type 0} (AreItems : List ℕ → List I → Type 0) (HaveCome : List ℕ → List I → Type 0)
    (written_as : List (List ℕ) → List ℕ) (Get : S → List I → List (List ℕ) → S → Type 0) where
  -- Each item of the bytes that the reader gave was answered, and what was written is the answers
  -- in order and nothing else. The count is that of the items, or the greatest where they are more.
  pub record Served (known before after : Option (List ℕ)) (old new : S) (count : ℕ) : Type 0 where
    pub bytes : List ℕ
    pub told : Tells known bytes
    pub items : List I
    pub are_items : AreItems bytes items
    pub texts : List (List ℕ)
    pub get : Get old items texts new
    pub written : Appends before after (written_as texts)
    pub count_is : count ≡ min (length items) greatest_count

  -- Each item that was whole in the bytes that came was answered, and the answers were written.
  pub record ServedSoFar (known left before after : Option (List ℕ)) (old new : S) : Type 0 where
    pub bytes : List ℕ
    pub came : Consumes known left bytes
    pub items : List I
    pub have_come : HaveCome bytes items
    pub texts : List (List ℕ)
    pub get : Get old items texts new
    pub written : Appends before after (written_as texts)

  -- Some items from the front of the stream were answered, and a beginning of the answers was
  -- written.
  pub record ServedInPart (known before after : Option (List ℕ)) (old new : S) : Type 0 where
    pub bytes : List ℕ
    pub told : Tells known bytes
    pub answered : List I
    pub unanswered : List I
    pub are_items : AreItems bytes (answered ++ unanswered)
    pub texts : List (List ℕ)
    pub get : Get old answered texts new
    pub written : WritesBeginning before after (written_as texts)

  -- what a fault leaves; where no memory was there, nothing was touched
  abbrev pub Stopped : Option (List ℕ) → Option (List ℕ) → Option (List ℕ) → Option (List ℕ) → S →
      S → Type 0
      → StreamFault → Type 0
  Stopped known left before after old new untouched ReadFailed = ServedSoFar known left before after
      old new
  Stopped known left before after old new untouched WriteFailed = ServedInPart known before after
      old new
  Stopped known left before after old new untouched NoMemory = untouched
