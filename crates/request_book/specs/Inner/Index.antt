-- How a keeper in memory finds the entry of a key.
use Rattle.std.specs.Prelude.{◌<◌, ◌≡◌, List, MatchOption, None, length, ℕ}
use Rattle.std.specs.declared.cmp.Ordering.{Ordering}
use Rattle.std.specs.Ordering.{nat_cmp, ordering_then}
use Rattle.std.specs.Cmp.Lexicographic.{slice_cmp}
use Rattle.std.specs.BTreeMap.{BTreeMap, get}
use Rattle.std.specs.List.{slice_get}
use Rattle.ring_words.specs.declared.request.Key.{Key}
use Rattle.request_book.specs.declared.entry.Entry.{Entry}
use Rattle.request_book.specs.Content.{entry_of}

-- by caller, and then by number
abbrev pub key_cmp : Key → Key → Ordering
key_cmp a b = ordering_then (slice_cmp nat_cmp a.caller b.caller) (nat_cmp a.number b.number)

-- Each key of the book has the place of its entry, and no other key has one.
unfoldable pub IsIndex : {C R : Type 0} → BTreeMap Key ℕ → List (Entry C R) → Type 0
IsIndex places book = (key : Key) → MatchOption (get key_cmp places key) (entry_of key book ≡ None)
    (λ place. (place < length book) × (slice_get book place ≡ entry_of key book))
