-- A run is safe.
use Rattle.std.proofs.Common.{◌≡◌, ℕ, ◌+◌, ◌≤◌, ◌++◌, Bool, List, length, zero, suc, Some, sym}
use Rattle.std.proofs.Common.{subst, ⊎_elim, arith}
use Rattle.std.specs.Prelude.{All, slice_get}
use Rattle.std.specs.Option.{option_to_list}
use Rattle.std.proofs.lemmas.Option.{get_or_from_slice_get, slice_get_cases, slice_get_within}
use Rattle.ring_words.specs.declared.request.Limits.{Limits}
use Rattle.ring_words.specs.declared.command.Command.{Command}
use Rattle.ring_words.specs.declared.command.Reply.{Reply}
use Rattle.request_book.specs.Call.{Call}
use Rattle.request_book.specs.Content.{Content}
use Rattle.request_book.specs.Once.{once}
use Rattle.request_book.specs.Run.{Leads, Run, kept}
use Rattle.request_book.specs.declared.entry.Entry.{Entry}
use Rattle.builder.specs.Safety.{AreValid, DoNotFall, Entries, FewLeft, HasRebalanced}
use Rattle.builder.specs.Safety.{IsProperEntry, IsSafe, IsWay, LeadsSafely}
use Rattle.builder.specs.Step.{State, Step}
use Rattle.builder.proofs.Few.{few_left_of}
use Rattle.builder.proofs.Hours.{kept_do_not_fall}
use Rattle.builder.proofs.Rests.{rests}
use Rattle.builder.proofs.ValidRings.{stay_valid}
use Rattle.builder.proofs.Ways.{rings_of, way_of}

pub few_left_on_the_way : (limits : Limits) (old new : State) (entries : Entries)
    (rings : ℕ → State) → IsWay limits old entries new rings → (name : List ℕ) (n : ℕ)
    (entry : Entry Command Reply) → slice_get entries n ≡ Some entry
    → HasRebalanced name entry → FewLeft (rings n) name entry.hour (rings (n + 1))
few_left_on_the_way limits old new entries rings way name n entry there is =
    few_left_of limits (rings n) (rings (n + 1)) name entry is (way.steps n entry there)

-- Where the first rings are valid and the entries proper, so are all rings on the way.
pub valid_on_the_way : (limits : Limits) (old new : State) (entries : Entries)
    (rings : ℕ → State) → IsWay limits old entries new rings → AreValid old
    → All IsProperEntry entries → (n : ℕ) → n ≤ length entries
    → AreValid (rings n)
valid_on_the_way limits old new entries rings way valid proper zero within =
    subst AreValid (sym way.first) valid
valid_on_the_way limits old new entries rings way valid proper (suc n) within =
    let before : AreValid (rings n) =
    valid_on_the_way limits old new entries rings way valid proper n (omega arith) in
    let on : (entry : Entry Command Reply) → slice_get entries n ≡ Some entry →
    AreValid (rings (suc n)) =
    λ entry at. (let here : IsProperEntry entry = subst IsProperEntry (get_or_from_slice_get entries
    n entry entry at) (proper n entry (slice_get_within entries n entry at)) in
    subst (λ (k : ℕ). AreValid (rings k)) (omega arith)
    (stay_valid limits (rings n) (rings (n + 1)) entry.hour entry.command entry.reply here.1
    (way.steps n entry at) here.0 before)) in
    ⊎_elim (λ some. on some.0 some.2) (λ past. absurd (omega (arith, past.0)))
    (slice_get_cases entries n).1

-- Every way of entries whose hours don't fall is safe.
pub safe_way : (limits : Limits) (old : State) (entries : Entries) (new : State)
    (rings : ℕ → State) → IsWay limits old entries new rings → DoNotFall entries
    → IsSafe limits old entries new rings
safe_way limits old entries new rings way rise = record {
  way = way;
  hours = rise;
  few = few_left_on_the_way limits old new entries rings way;
  rest = rests limits old new entries rings way rise;
}

-- What decided requests lead to is reached safely.
pub safe_leads : (limits : Limits) (old new : Content State Command Reply)
    (decided : Entries) → Leads (Step limits) old decided new
    → LeadsSafely limits old new
safe_leads limits old new decided leads =
    let entries : Entries = kept old.hour decided in
    record {
      entries = entries;
      book = leads.book;
      rings = rings_of limits old.state new.state entries leads.chain;
      safe = safe_way limits old.state entries new.state
          (rings_of limits old.state new.state entries leads.chain)
          (way_of limits old.state new.state entries leads.chain) (kept_do_not_fall old.hour
          decided);
    }

-- Whatever is called, a run leads safely.
pub led_run : (limits : Limits) (limit : ℕ) (closed : Bool) (old new : Content State Command Reply)
    (calls : List (Call Command Reply)) → Run (Step limits) limit closed old calls new
    → LeadsSafely limits old new
led_run limits limit closed old new calls run =
    safe_leads limits old new (once old.book calls ++ option_to_list run.doubt) run.leads
