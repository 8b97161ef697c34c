-- The commands of a run's entries are those of its calls.
use Rattle.std.proofs.Common.{◌≡◌, ℕ, ◌<◌, ◌++◌, Bool, true, false, cond, List, [], ◌∷◌}
use Rattle.std.proofs.Common.{Option, Some, None, refl, sym, subst, ◌∙◌, max, arith}
use Rattle.std.specs.Prelude.{All, Err, MatchOption, Ok}
use Rattle.std.specs.List.{AllByRecursion, flat_map}
use Rattle.std.specs.Option.{option_to_list}
use Rattle.std.proofs.lemmas.Bool.{cond_both}
use Rattle.std.proofs.lemmas.List.{append_cancel_left}
use Rattle.std.proofs.lemmas.List.Elements.{All-append, All-cons, All-from_recursion, All-nil}
use Rattle.std.proofs.lemmas.List.Elements.{recursion_from_All}
use Rattle.ring_messages.specs.Commands.{IsProperCommand}
use Rattle.ring_words.specs.declared.request.Limits.{Limits}
use Rattle.ring_words.specs.declared.command.Command.{Command}
use Rattle.ring_words.specs.declared.command.Reply.{Reply}
use Rattle.request_book.specs.Call.{Call, Deliver, Load, failed, meets_fault}
use Rattle.request_book.specs.Content.{Content, is_known}
use Rattle.request_book.specs.Once.{decision, firsts, once}
use Rattle.request_book.specs.Run.{IsInDoubt, Run, kept, last_hour}
use Rattle.request_book.specs.declared.entry.Entry.{Entry}
use Rattle.builder.specs.Life.{IsProperCall}
use Rattle.builder.specs.Safety.{AreValid, AreValidOnTheWay, Entries, IsProperEntry, IsSafeRun}
use Rattle.builder.specs.Safety.{LeadsSafely}
use Rattle.builder.proofs.Safe.{led_run, valid_on_the_way}
use Rattle.ring_words.specs.Limits.{long_count}
use Rattle.builder.specs.Step.{State, Step}

abbrev AreProper : Entries → Type 0
AreProper entries = AllByRecursion IsProperEntry entries

proper_decisions : (calls : List (Call Command Reply)) → AllByRecursion IsProperCall calls
    → AreProper (flat_map decision calls)
proper_decisions [] proper = tt
proper_decisions (Deliver d (Ok r) ∷ calls) proper = (proper.0, proper_decisions calls proper.1)
proper_decisions (Deliver d (Err f) ∷ calls) proper = proper_decisions calls proper.1
proper_decisions (Load answer ∷ calls) proper = proper_decisions calls proper.1

proper_firsts : (seen entries : Entries) → AreProper entries
    → AreProper (firsts seen entries)
proper_firsts seen [] proper = tt
proper_firsts seen (e ∷ es) proper =
    cond_both (is_known e.key seen) (firsts seen es) (e ∷ firsts (seen ++ e ∷ []) es) AreProper
    (λ known. proper_firsts seen es proper.1)
    (λ new. (proper.0, proper_firsts (seen ++ e ∷ []) es proper.1))

proper_kept : (hour : ℕ) (entries : Entries) → hour < long_count → AreProper entries
    → AreProper (kept hour entries)
proper_kept hour [] small proper = tt
proper_kept hour (e ∷ es) small proper =
    let low = proper.0.1 in
    let greater : max hour e.hour < long_count = omega (arith, low) in
    ((proper.0.0, greater), proper_kept (max hour e.hour) es greater proper.1)

proper_if : (b : Bool) (first call : Call Command Reply) (rest : Option (Call Command Reply))
    → cond b (Some first) rest ≡ Some call → IsProperCall first
    → (rest ≡ Some call → IsProperCall call) → IsProperCall call
proper_if true first call rest found proper others = subst IsProperCall (one_call first call found)
    proper
  where
    one_call : (a b : Call Command Reply) → Some a ≡ Some b → a ≡ b
    one_call a b e = cc
proper_if false first call rest found proper others = others found

proper_failed : (calls : List (Call Command Reply)) (call : Call Command Reply)
    → AllByRecursion IsProperCall calls → failed calls ≡ Some call → IsProperCall call
proper_failed [] call proper found = cc
proper_failed (first ∷ calls) call proper found =
    proper_if (meets_fault first) first call (failed calls) found proper.0
    (proper_failed calls call proper.1)

proper_doubt : (limit : ℕ) (book : Entries) (call : Option (Call Command Reply))
    (doubt : Option (Entry Command Reply)) → MatchOption doubt (Unit {0})
    (IsInDoubt limit book call) → ((c : Call Command Reply) → call ≡ Some c → IsProperCall c)
    → All IsProperEntry (option_to_list doubt)
proper_doubt limit book call None is proper = All-nil IsProperEntry
proper_doubt limit book None (Some e) is proper = absurd is
proper_doubt limit book (Some (Load answer)) (Some e) is proper = absurd is
proper_doubt limit book (Some (Deliver d answer)) (Some e) is proper =
    All-cons IsProperEntry e [] (
      subst IsProperCommand (sym is.2) (proper (Deliver d answer) refl).0,
      subst (λ (h : ℕ). h < long_count) (sym is.1) (proper (Deliver d answer) refl).1,
    )
    (All-nil IsProperEntry)

-- Where all that was delivered is proper, so is what a run decided.
proper_decided : (limits : Limits) (limit : ℕ) (closed : Bool)
    (old new : Content State Command Reply) (calls : List (Call Command Reply))
    → (run : Run (Step limits) limit closed old calls new) → old.hour < long_count
    → All IsProperCall calls
    → All IsProperEntry (kept old.hour (once old.book calls ++ option_to_list run.doubt))
proper_decided limits limit closed old new calls run small proper =
    let each : AllByRecursion IsProperCall calls = recursion_from_All IsProperCall calls proper in
    let first : AreProper (once old.book calls) =
    proper_firsts old.book (flat_map decision calls) (proper_decisions calls each) in
    let last : All IsProperEntry (option_to_list run.doubt) =
    proper_doubt limit (old.book ++ kept old.hour (once old.book calls))
    (failed calls) run.doubt run.in_doubt (λ call found. proper_failed calls call each found) in
    let decided : Entries = once old.book calls ++ option_to_list run.doubt in
    let all : All IsProperEntry decided =
    All-append IsProperEntry (once old.book calls) (option_to_list run.doubt)
    (All-from_recursion IsProperEntry (once old.book calls) first) last in
    All-from_recursion IsProperEntry (kept old.hour decided)
    (proper_kept old.hour decided small (recursion_from_All IsProperEntry decided all))

-- and so are the entries
pub proper_entries : (limits : Limits) (limit : ℕ) (closed : Bool)
    (old new : Content State Command Reply) (calls : List (Call Command Reply))
    → Run (Step limits) limit closed old calls new → old.hour < long_count → All IsProperCall calls
    → (led : LeadsSafely limits old new) → All IsProperEntry led.entries
proper_entries limits limit closed old new calls run small proper led =
    let decided : Entries = once old.book calls ++ option_to_list run.doubt in
    let same : kept old.hour decided ≡ led.entries =
    append_cancel_left old.book (kept old.hour decided) led.entries
    (sym run.leads.book ∙ led.book) in
    subst (All IsProperEntry) same
    (proper_decided limits limit closed old new calls run small proper)

last_small : (hour : ℕ) (entries : Entries) → hour < long_count → AreProper entries
    → last_hour hour entries < long_count
last_small hour [] small proper = small
last_small hour (e ∷ es) small proper = last_small e.hour es proper.0.1 proper.1

-- The hour after a run has 32 bits too.
pub small_after : (limits : Limits) (limit : ℕ) (closed : Bool)
    (old new : Content State Command Reply) (calls : List (Call Command Reply))
    → Run (Step limits) limit closed old calls new → old.hour < long_count → All IsProperCall calls
    → new.hour < long_count
small_after limits limit closed old new calls run small proper =
    subst (λ (h : ℕ). h < long_count) (sym run.leads.hour) (last_small old.hour _ small
    (recursion_from_All IsProperEntry _
    (proper_decided limits limit closed old new calls run small proper)))

-- Where the old rings are valid too, so are all rings on the way.
pub valid_run : (limits : Limits) (limit : ℕ) (closed : Bool)
    (old new : Content State Command Reply) (calls : List (Call Command Reply))
    → Run (Step limits) limit closed old calls new → old.hour < long_count → All IsProperCall calls
    → AreValid old.state → (led : LeadsSafely limits old new) → AreValidOnTheWay led
valid_run limits limit closed old new calls run small proper valid led =
    valid_on_the_way limits old.state new.state led.entries led.rings led.safe.way valid
    (proper_entries limits limit closed old new calls run small proper led)

-- A run of proper calls is safe.
pub safe_run : (limits : Limits) (limit : ℕ) (closed : Bool) (old new : Content State Command Reply)
    (calls : List (Call Command Reply)) → Run (Step limits) limit closed old calls new
    → All IsProperCall calls → IsSafeRun limits old new
safe_run limits limit closed old new calls run proper =
    let led : LeadsSafely limits old new = led_run limits limit closed old new calls run in
    record {
      led = led;
      valid = λ valid small. valid_run limits limit closed old new calls run small proper valid led;
      hour = λ small. small_after limits limit closed old new calls run small proper;
    }
