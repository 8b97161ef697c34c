-- The rings on the way of a run.
use Rattle.std.proofs.Common.{◌≡◌, ℕ, ◌+◌, ◌<◌, ◌≤◌, List, [], ◌∷◌, length, zero, suc, Some, refl}
use Rattle.std.proofs.Common.{sym, subst, ◌∙◌, ⊎_elim, arith}
use Rattle.std.specs.Prelude.{slice_get}
use Rattle.std.proofs.lemmas.Option.{get_or_from_slice_get, slice_get_cases, slice_get_within}
use Rattle.ring_model.specs.Ring.{RingRecord}
use Rattle.ring_model.specs.Rings.{ring_at}
use Rattle.ring_words.specs.declared.request.Limits.{Limits}
use Rattle.ring_words.specs.declared.command.Command.{Command}
use Rattle.ring_words.specs.declared.command.Reply.{Reply}
use Rattle.request_book.specs.Run.{Chain}
use Rattle.request_book.specs.declared.entry.Entry.{Entry}
use Rattle.builder.specs.Safety.{DoNotFall, Entries, IsWay}
use Rattle.builder.specs.Step.{State, Step}
use Rattle.builder.proofs.Changes.{Next, next_ring}
use Rattle.builder.proofs.RingAt.{one_ring}

-- ---- a way of a chain

-- the rings that the first n entries of a chain leave
pub rings_of : (limits : Limits) (old new : State) (entries : Entries)
    → Chain (Step limits) old entries new → ℕ → State
rings_of limits old new entries chain zero = old
rings_of limits old new [] chain (suc n) = old
rings_of limits old new (e ∷ es) chain (suc n) = rings_of limits chain.0 new es chain.2 n

one_entry : (a b : Entry Command Reply) → Some a ≡ Some b → a ≡ b
one_entry a b e = cc

step_of : (limits : Limits) (old new : State) (entries : Entries)
    (chain : Chain (Step limits) old entries new) (n : ℕ) (entry : Entry Command Reply)
    → slice_get entries n ≡ Some entry
    → Step limits (rings_of limits old new entries chain n) entry.hour entry.command entry.reply
    (rings_of limits old new entries chain (n + 1))
unfolding rings_of
step_of limits old new [] chain n entry at = cc
step_of limits old new (e ∷ es) chain zero entry at =
    subst (λ (x : Entry Command Reply). Step limits old x.hour x.command x.reply chain.0)
    (one_entry e entry at) chain.1
step_of limits old new (e ∷ es) chain (suc n) entry at =
    let next : suc (n + 1) ≡ suc n + 1 = omega arith in
    subst (λ (k : ℕ). Step limits (rings_of limits chain.0 new es chain.2 n) entry.hour
    entry.command entry.reply (rings_of limits old new (e ∷ es) chain k)) next
    (step_of limits chain.0 new es chain.2 n entry at)

last_of : (limits : Limits) (old new : State) (entries : Entries)
    (chain : Chain (Step limits) old entries new)
    → rings_of limits old new entries chain (length entries) ≡ new
unfolding rings_of
last_of limits old new [] chain = sym chain
last_of limits old new (e ∷ es) chain = last_of limits chain.0 new es chain.2

pub way_of : (limits : Limits) (old new : State) (entries : Entries)
    (chain : Chain (Step limits) old entries new)
    → IsWay limits old entries new (rings_of limits old new entries chain)
unfolding rings_of
way_of limits old new entries chain =
    record {
      first = refl;
      steps = step_of limits old new entries chain;
      last =
          last_of limits old new entries chain;
    }

-- ---- a ring on a way

-- There is a ring of the name, and this is known of it.
pub record IsThere (rings : State) (name : List ℕ) (P : RingRecord → Type 0) : Type 0 where
  pub now : RingRecord
  pub is : ring_at name rings ≡ Some now
  pub has : P now

pub of_there : (rings : State) (name : List ℕ) (P : RingRecord → Type 0) (now : RingRecord)
    → IsThere rings name P → ring_at name rings ≡ Some now → P now
of_there rings name P now there is = subst P (one_ring there.now now (sym there.is ∙ is)) there.has

there_next : (limits : Limits) (rings after : State) (name : List ℕ) (P : RingRecord → Type 0)
    (entry : Entry Command Reply) → Step limits rings entry.hour entry.command entry.reply after
    → ((old new : RingRecord) → Next name entry old new → P old → P new) → IsThere rings name P
    → IsThere after name P
there_next limits rings after name P entry step keeps there =
    let next = next_ring limits rings after name entry there.now step there.is in
    record { now = next.new; is = next.is; has = keeps there.now next.new next.next there.has }

-- What is known of a ring is known of it further on, while each entry keeps it.
pub there_later : (limits : Limits) (old new : State) (entries : Entries)
    (rings : ℕ → State) → IsWay limits old entries new rings → (name : List ℕ)
    (P : RingRecord → Type 0) (from n : ℕ) → from + n ≤ length entries
    → ((k : ℕ) (entry : Entry Command Reply) → from ≤ k → k < from + n →
    slice_get entries k ≡ Some entry → (old new : RingRecord) → Next name entry old new →
    P old → P new)
    → IsThere (rings from) name P → IsThere (rings (from + n)) name P
there_later limits old new entries rings way name P from zero within keeps there =
    subst (λ (k : ℕ). IsThere (rings k) name P) (omega arith) there
there_later limits old new entries rings way name P from (suc n) within keeps there =
    let before : IsThere (rings (from + n)) name P =
    there_later limits old new entries rings way name P from n (omega arith)
    (λ k entry low high at. keeps k entry low (omega arith) at) there in
    let on : (entry : Entry Command Reply) → slice_get entries (from + n) ≡ Some entry →
    IsThere (rings (from + suc n)) name P =
    λ entry at. subst (λ (k : ℕ). IsThere (rings k) name P) (omega arith)
    (there_next limits (rings (from + n)) (rings (from + n + 1)) name P entry
    (way.steps (from + n) entry at) (keeps (from + n) entry (omega arith) (omega arith) at)
    before) in
    ⊎_elim (λ some. on some.0 some.2) (λ past. absurd (omega (arith, past.0)))
    (slice_get_cases entries (from + n)).1

pub later_hour : (entries : Entries) → DoNotFall entries → (i k : ℕ)
    (e f : Entry Command Reply) → i < k → slice_get entries i ≡ Some e
    → slice_get entries k ≡ Some f → e.hour ≤ f.hour
later_hour entries rise i k e f less at_e at_f =
    let le = rise i k e less (slice_get_within entries k f at_f) in
    rw (get_or_from_slice_get entries i e e at_e, get_or_from_slice_get entries k f e at_f) at le
