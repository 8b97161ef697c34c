use Rattle.std.proofs.Common.{◌≡◌, take}
use Rattle.request_book.proofs.mem_keeper.copy_entries.Given as goal

-- the copies so far are those of the entries so far
abbrev pub invariant-copies : goal.invariant-copies
invariant-copies g l = l.copies.items ≡ take l.entry-index l.entries
