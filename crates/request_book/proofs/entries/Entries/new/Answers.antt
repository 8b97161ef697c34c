use Rattle.request_book.proofs.Places.{index_none}
use Rattle.request_book.proofs.entries.Entries.new.Goals as goal

pub invariant_of-result : goal.invariant_of-result
invariant_of-result g c = index_none c.new-2.result c.new.result.items c.new-2.ensures.empty
    c.new.ensures.items
