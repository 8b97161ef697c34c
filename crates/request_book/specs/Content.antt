-- What a keeper holds.
use Rattle.std.specs.Cmp.Lexicographic.{pointwise}
use Rattle.std.specs.Prelude.{◌==◌, ◌&&◌, Bool, List, Option, drop, find, is_some, nat_eq, take, ℕ}
use Rattle.ring_words.specs.declared.request.Key.{Key}
use Rattle.request_book.specs.declared.entry.Entry.{Entry}

-- Two keys are one if they have the same caller, byte for byte, and the same number.
abbrev pub same_key : Key → Key → Bool
same_key a b = pointwise nat_eq a.caller b.caller && (a.number == b.number)

-- the entry that a book has of a key
abbrev pub entry_of : {C R : Type 0} → Key → List (Entry C R) → Option (Entry C R)
entry_of key book = find (λ e. same_key e.key key) book

-- whether a book has an entry of a key
abbrev pub is_known : {C R : Type 0} → Key → List (Entry C R) → Bool
is_known key book = is_some (entry_of key book)

-- The entries of a book from a place on, by rising place, and no more than so many of them. The
-- place of an entry is how many were decided before it.
abbrev pub entries_from : {C R : Type 0} → ℕ → ℕ → List (Entry C R) → List (Entry C R)
entries_from place most book = take most (drop place book)

-- The content: the state, the book, which has an entry for each decided request in the order of the
-- decisions, and the greatest hour.
pub record Content (S C R : Type 0) : Type 0 where
  pub state : S
  pub book : List (Entry C R)
  pub hour : ℕ
