use Rattle.ring_messages.proofs.parts.value_of.Goals as goal
use Rattle.ring_messages.proofs.parts.value_of.Goals.{then-is_memory, else-is_memory}

pub returns-after-is_memory : goal.returns-after-is_memory
returns-after-is_memory c =
    elim c.if-is_memory.branch [
      | then-is_memory w ↦ rw w.result-is tt
      | else-is_memory w ↦
          let other = w.if-is_memory.false in
          rw w.result-is (λ d h.
          let none = c.in-Err.ensures.err (λ memory. let is = c.is_memory.ensures.1 memory in cc) h.0 in
          let read = h.1 in
          cc)
    ]
