use Rattle.std.proofs.Common.{◌≡◌, take}
use Rattle.store_tables.proofs.matching.all_same.Given as goal

-- the items so far are the same
abbrev pub invariant-items : goal.invariant-items
invariant-items g l = take l.at l.first ≡ take l.at l.second
