-- All calls of a life come to one run.
use Rattle.std.proofs.Common.{◌≡◌, ◌∙◌, ℕ, ◌++◌, List, [], ◌∷◌, Option, Some, None, false, ap}
use Rattle.std.proofs.Common.{append_assoc, refl, subst, sym}
use Rattle.std.specs.Prelude.{All, IsSomeAnd, Ok}
use Rattle.std.specs.List.{AllByRecursion}
use Rattle.std.specs.Option.{option_or}
use Rattle.std.proofs.lemmas.List.Elements.{All-append, All-nil, recursion_from_All}
use Rattle.std.proofs.lemmas.List.Folds.{find-append}
use Rattle.ring_words.specs.declared.request.Delivery.{Delivery}
use Rattle.ring_words.specs.declared.request.Limits.{Limits}
use Rattle.ring_words.specs.declared.command.Command.{Command}
use Rattle.ring_words.specs.declared.command.Reply.{Reply}
use Rattle.request_book.specs.Call.{Call, Deliver, failed, meets_fault}
use Rattle.request_book.specs.Content.{entry_of}
use Rattle.request_book.specs.Run.{AnswersAlike, RepeatsAreKept, Run}
use Rattle.request_book.proofs.Alike.{repeats}
use Rattle.request_book.specs.declared.entry.Entry.{Entry}
use Rattle.request_book.proofs.Runs.{run_none}
use Rattle.request_book.proofs.Settles.{Settles, come_on, repeats_before, settles}
use Rattle.builder.specs.Life.{BookCalls, BookContent, IsOneLife, KeepsReply, Lives, all_calls}
use Rattle.builder.specs.Step.{Step}
use Rattle.builder.proofs.KeptReplies.{life_keeps}

-- where none of two failed, none of each did
first_none : (o p : Option (Call Command Reply)) → option_or o p ≡ None → o ≡ None
first_none None p none = refl
first_none (Some call) p none = none

second_none : (o p : Option (Call Command Reply)) → option_or o p ≡ None → p ≡ None
second_none None p none = none
second_none (Some call) p none = absurd (cc)

failed_both : (calls more : BookCalls) → failed (calls ++ more) ≡ None
    → option_or (failed calls) (failed more) ≡ None
failed_both calls more none = sym (find-append meets_fault calls more) ∙ none

module _ (limits : Limits) (limit : ℕ) (first : BookContent) where
  abbrev Comes : BookCalls → BookCalls → BookContent → Type 0
  Comes done calls new = Settles (Step limits) limit first done calls new

  -- the calls of a life after what was done before
  life_after : (done : BookCalls) (old new : BookContent) (runs : List BookCalls)
      → Run (Step limits) limit false first done old → failed done ≡ None
      → Lives limits limit old runs new → Comes done (all_calls runs) new
  life_after done old new [] ran none same = settles (Step limits) limit first [] new done old ran
      none (subst (Run (Step limits) limit false old []) (sym same)
      (run_none (Step limits) limit false old))
  life_after done old new (calls ∷ later) ran none lives =
      let one : Comes done calls lives.0 =
      settles (Step limits) limit first calls lives.0 done old ran none lives.1 in
      let rest : Comes (done ++ one.settled) (all_calls later) new =
      life_after (done ++ one.settled) lives.0 new later one.run one.unfailed lives.2 in
      record {
        settled = one.settled ++ rest.settled;
        comes = come_on calls (all_calls later) one.settled rest.settled one.comes rest.comes;
        run = subst (λ (cs : BookCalls). Run (Step limits) limit false first cs new)
            (append_assoc done one.settled rest.settled) rest.run;
        unfailed = subst (λ (cs : BookCalls). failed cs ≡ None)
            (append_assoc done one.settled rest.settled) rest.unfailed;
        whole = λ well. (let both = failed_both calls (all_calls later) well in
            ap (λ (cs : BookCalls). cs ++ rest.settled)
            (one.whole (first_none (failed calls) (failed (all_calls later)) both))
            ∙ ap (λ (cs : BookCalls). calls ++ cs)
            (rest.whole (second_none (failed calls) (failed (all_calls later)) both)));
      }

-- All calls of a life come to one run.
pub one_life : (limits : Limits) (limit : ℕ) (old new : BookContent) (runs : List BookCalls)
    → Lives limits limit old runs new → IsOneLife limits limit old runs new
one_life limits limit old new runs lives =
    let all : Settles (Step limits) limit old [] (all_calls runs) new =
    life_after limits limit old [] old new runs (run_none (Step limits) limit false old) refl lives
    in
    record {
      settled = all.settled;
      comes = all.comes;
      run = all.run;
      unfailed = all.unfailed;
      whole = all.whole;
    }

-- ---- replies

-- what holds of each call of each run holds of each call
of_all : (IsSuch : Call Command Reply → Type 0) (runs : List BookCalls)
    → AllByRecursion (All IsSuch) runs → All IsSuch (all_calls runs)
of_all IsSuch [] each = All-nil IsSuch
of_all IsSuch (calls ∷ later) each =
    All-append IsSuch calls (all_calls later) each.0 (of_all IsSuch later each.1)

at_place : (IsSuch : Call Command Reply → Type 0) (before : BookCalls) (call : Call Command Reply)
    (after : BookCalls) → AllByRecursion IsSuch (before ++ call ∷ after) → IsSuch call
at_place IsSuch [] call after each = each.0
at_place IsSuch (other ∷ before) call after each = at_place IsSuch before call after each.1

module _ (d b : Delivery Command) (p q : Reply) where
  -- two replies that one entry keeps
  same_entry : (had : Option (Entry Command Reply))
      → IsSomeAnd had (λ e. (e.command ≡ d.command) × (e.reply ≡ p))
      → IsSomeAnd had (λ e. (e.command ≡ b.command) × (e.reply ≡ q))
      → (d.command ≡ b.command) × (p ≡ q)
  same_entry None one two = absurd one
  same_entry (Some e) one two = (sym one.0 ∙ two.0, sym one.1 ∙ two.1)

-- Two replies to one key in a life are one reply, to one command.
pub life_alike : (limits : Limits) (limit : ℕ) (old new : BookContent) (runs : List BookCalls)
    → Lives limits limit old runs new → AnswersAlike (all_calls runs)
life_alike limits limit old new runs lives before d p between b q after is same =
    let each : AllByRecursion (KeepsReply new.book) (all_calls runs) =
    recursion_from_All (KeepsReply new.book) (all_calls runs) (of_all (KeepsReply new.book) runs
    (recursion_from_All (All (KeepsReply new.book)) runs
    (life_keeps limits limit old new runs lives))) in
    let one : KeepsReply new.book (Deliver d (Ok p)) =
    at_place (KeepsReply new.book) before (Deliver d (Ok p)) (between ++ Deliver b (Ok q) ∷ after)
    (subst (AllByRecursion (KeepsReply new.book)) is each) in
    let two : KeepsReply new.book (Deliver b (Ok q)) =
    at_place (KeepsReply new.book) (before ++ Deliver d (Ok p) ∷ between) (Deliver b (Ok q)) after
    (subst (AllByRecursion (KeepsReply new.book))
    (is ∙ sym (append_assoc before (Deliver d (Ok p) ∷ between) (Deliver b (Ok q) ∷ after))) each)
    in
    same_entry d b p q (entry_of d.key new.book) one
    (subst (λ k. IsSomeAnd (entry_of k new.book) (λ e. (e.command ≡ b.command) × (e.reply ≡ q)))
    (sym same) two)

-- A repeat in a life gets the reply of the first.
pub life_repeats : (limits : Limits) (limit : ℕ) (old new : BookContent) (runs : List BookCalls)
    → Lives limits limit old runs new → RepeatsAreKept (all_calls runs)
life_repeats limits limit old new runs lives =
    let one : IsOneLife limits limit old runs new = one_life limits limit old new runs lives in
    repeats_before (all_calls runs) one.settled one.comes
    (repeats (Step limits) limit false old one.settled new one.run)
