-- What is read of files, and why they are not read.
use Rattle.std.proofs.Common.{◌+◌, ◌++◌, ◌<◌, ◌∙◌, ◌≡◌, ◌≤◌, [], List, None, Option, Some, ap}
use Rattle.std.proofs.Common.{append-nil, arith, length, subst, sym, take, ℕ}
use Rattle.std.specs.Prelude.{IfSome, min, ⊤}
use Rattle.std.specs.Io.KnownBytes.{Consumes, IsAtEnd}
use Rattle.std.specs.Io.Take.{take_inner, take_limit, take_remaining}
use Rattle.std.specs.Option.{option_map}
use Rattle.std.specs.declared.io.traits.Take.{Take}
use Rattle.std.proofs.lemmas.List.{length-take, take_all}
use Rattle.byte_streams.specs.Counted.{IsReadFault, counted_of, one_more, read_faults, reader_of}
use Rattle.byte_streams.specs.declared.counted.WholeReader.{WholeReader}
use Rattle.byte_streams.specs.declared.fault.StreamFault.{StreamFault}
use Rattle.byte_streams.specs.declared.fault.StreamFault.TheVariants as stream
use Rattle.program_stores.specs.Faults.{IsFileFault, stream_fault}
use Rattle.program_stores.specs.declared.faults.ProgramFault.{ProgramFault}
use Rattle.program_stores.specs.declared.faults.ProgramFault.TheVariants as fault
use Rattle.file_stores.specs.Inner.Unread.{GivesAll, GivesShort, IsUnshort}
use Rattle.file_stores.specs.Texts.{IsTextOf, IsUnread}

-- a fault of reading all that a reader gives
pub read_fault : {R : Type 0} (remaining : R → Option (List ℕ)) (reader later : WholeReader R)
    (most : ℕ) (why : StreamFault) → IsReadFault (counted_of reader) (counted_of later) why
    → IsUnshort remaining reader later most (stream_fault why)
read_fault remaining reader later most stream.ReadFailed cause = cause
read_fault remaining reader later most stream.NoMemory cause = cause
read_fault remaining reader later most stream.WriteFailed cause = absurd cause

module _ {R : Type 0} (remaining : R → Option (List ℕ)) (reader later : WholeReader R) (most : ℕ)
  where
    -- why a short text isn't given is told as a fault of the file
    pub file_fault : (why : ProgramFault) → IsUnshort remaining reader later most why
        → IsFileFault why
    file_fault fault.NoFile is = absurd is
    file_fault fault.ReadFailed is = tt
    file_fault fault.TooLong is = tt
    file_fault fault.NoMemory is = tt
    file_fault fault.NoRing is = absurd is
    file_fault fault.RingExists is = absurd is
    file_fault fault.TooManyRings is = absurd is
    file_fault fault.BadText is = absurd is
    file_fault fault.TooFewDevices is = absurd is
    file_fault fault.NotAssigned is = absurd is
    file_fault fault.Unreadable is = absurd is
    file_fault fault.StoreFault is = absurd is
    file_fault fault.BadStore is = absurd is
    file_fault fault.NetFailed is = absurd is
    file_fault fault.BadPath is = absurd is
    file_fault fault.NoVersion is = absurd is
    file_fault fault.ClockAhead is = absurd is
    file_fault fault.WriteFailed is = absurd is

-- of any bytes that are known there is nothing to show
anything : (known : Option (List ℕ)) → IfSome known (λ all. ⊤)
anything None = tt
anything (Some all) = tt

-- what is read of a file up to one byte more than so many
module _ (most : ℕ) where
  taken : (all text rest : List ℕ) → take (most + 1) all ≡ text ++ rest → rest ≡ []
      → take (most + 1) all ≡ text
  taken all text rest is none = is ∙ ap (λ (r : List ℕ). text ++ r) none ∙ append-nil text

  counted : (all text rest : List ℕ) → take (most + 1) all ≡ text ++ rest → rest ≡ []
      → min (most + 1) (length all) ≡ length text
  counted all text rest is none = sym (length-take (most + 1) all) ∙ ap (λ (r : List ℕ). length r) (taken all text rest is none)

  -- is all of it, if it is no more than so many bytes
  pub is_all : (known later : Option (List ℕ)) (text : List ℕ)
      → Consumes (option_map (take (most + 1)) known) later text → IsAtEnd later
      → length text ≤ most → IfSome known (λ all. text ≡ all)
  is_all None later text consumes ended short = tt
  is_all (Some all) None text consumes ended short = absurd consumes
  is_all (Some all) (Some rest) text consumes ended short =
      let count = counted all text rest consumes ended in
      let fits : length all ≤ most + 1 = omega (arith, count, short) in
      sym (taken all text rest consumes ended) ∙ take_all (most + 1) all fits

  -- and it has more, if that has
  pub is_longer : (known later : Option (List ℕ)) (text : List ℕ)
      → Consumes (option_map (take (most + 1)) known) later text → IsAtEnd later
      → most < length text → IfSome known (λ all. most < length all)
  is_longer None later text consumes ended long = tt
  is_longer (Some all) None text consumes ended long = absurd consumes
  is_longer (Some all) (Some rest) text consumes ended long =
      let count = counted all text rest consumes ended in omega (arith, count, long)

-- The files of a name are opened so, one of them was, and its reader up to one byte more than so many
-- was new and was asked for all that it has.
module _ {F : Type 0} (opens : List ℕ → F → Type 0) (remaining : F → Option (List ℕ)) (most : ℕ)
    (name : List ℕ) (file : F) (is : opens name file) (reader later : WholeReader (Take F))
    (limit : take_limit (reader_of (counted_of reader)) ≡ most + 1)
    (inner : take_inner (reader_of (counted_of reader)) ≡ file)
    (new : read_faults (counted_of reader) ≡ 0) where
  -- what is known of its bytes
  known_bytes : take_remaining remaining (reader_of (counted_of reader))
      ≡ option_map (take (most + 1)) (remaining file)
  known_bytes = ap (λ n. option_map (take n) (remaining (take_inner (reader_of (counted_of reader)))))
      limit ∙ ap (λ f. option_map (take (most + 1)) (remaining f)) inner

  consumed : (text : List ℕ) → GivesAll (take_remaining remaining) reader later text
      → Consumes (option_map (take (most + 1)) (remaining file))
      (take_remaining remaining (reader_of (counted_of later))) text
  consumed text all = subst (λ k. Consumes k (take_remaining remaining (reader_of (counted_of later)))
      text) known_bytes all.0

  -- the text is all that the file has
  pub is_text : (text : List ℕ) → GivesShort (take_remaining remaining) reader later most text
      → IsTextOf opens remaining name text (Some later)
  is_text text short = (
    short.0.2 ∙ new,
    (
      file,
      is,
      is_all most (remaining file) (take_remaining remaining (reader_of (counted_of later))) text
          (consumed text short.0) short.0.1 short.1,
    ),
  )

  module _ (lacks : List ℕ → Type 0) where
    -- or there is none, for this fault
    pub is_unread : (why : ProgramFault) → IsUnshort (take_remaining remaining) reader later most why
        → IsUnread opens remaining lacks name most why (Some later)
    is_unread fault.ReadFailed is_so = (is_so ∙ ap one_more new, (file, is, anything (remaining file)))
    is_unread fault.NoMemory is_so = (is_so ∙ new, (file, is, anything (remaining file)))
    is_unread fault.TooLong (text, all, long) = (
      all.2 ∙ new,
      (
        file,
        is,
        is_longer most (remaining file) (take_remaining remaining (reader_of (counted_of later))) text
            (consumed text all) all.1 long,
      ),
    )
    is_unread fault.NoFile is_so = absurd is_so
    is_unread fault.NoRing is_so = absurd is_so
    is_unread fault.RingExists is_so = absurd is_so
    is_unread fault.TooManyRings is_so = absurd is_so
    is_unread fault.BadText is_so = absurd is_so
    is_unread fault.TooFewDevices is_so = absurd is_so
    is_unread fault.NotAssigned is_so = absurd is_so
    is_unread fault.Unreadable is_so = absurd is_so
    is_unread fault.StoreFault is_so = absurd is_so
    is_unread fault.BadStore is_so = absurd is_so
    is_unread fault.NetFailed is_so = absurd is_so
    is_unread fault.BadPath is_so = absurd is_so
    is_unread fault.NoVersion is_so = absurd is_so
    is_unread fault.ClockAhead is_so = absurd is_so
    is_unread fault.WriteFailed is_so = absurd is_so
