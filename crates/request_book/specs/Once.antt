-- Which deliveries are decided, each once.
use Rattle.std.specs.List.{flat_map}
use Rattle.std.specs.Prelude.{◌++◌, ◌∷◌, Err, List, Ok, [], cond}
use Rattle.request_book.specs.declared.entry.Entry.{Entry}
use Rattle.request_book.specs.Call.{Call, Deliver, Load}
use Rattle.request_book.specs.Content.{is_known}

-- A delivery is decided if its answer is a reply: its own key, hour and command, with that reply.
abbrev pub decision : {C R : Type 0} → Call C R → List (Entry C R)
decision (Deliver d (Ok reply)) = record {
  key = d.key;
  hour = d.hour;
  command = d.command;
  reply =
      reply;
} ∷ []
decision (Deliver d (Err fault)) = []
decision (Load answer) = []

-- the first entry of each key that isn't among those seen
abbrev pub firsts : {C R : Type 0} → List (Entry C R) → List (Entry C R) → List (Entry C R)
firsts seen [] = []
firsts seen (e ∷ es) = cond (is_known e.key seen) (firsts seen es) (e ∷ firsts (seen ++ e ∷ []) es)

-- of the decided deliveries the first of each key that isn't in the opening book, in their order
abbrev pub once : {C R : Type 0} → List (Entry C R) → List (Call C R) → List (Entry C R)
once book calls = firsts book (flat_map decision calls)
