-- The log of a life, run again.
use Rattle.std.proofs.Common.{◌++◌, ◌<◌, ◌≡◌, ◌≤◌, ◌∙◌, ◌∷◌, List, [], ap, false, length, subst, sym}
use Rattle.std.proofs.Common.{ℕ}
use Rattle.std.specs.Prelude.{All, Ok, Result}
use Rattle.std.specs.List.{AllByRecursion}
use Rattle.std.proofs.lemmas.List.{length-map}
use Rattle.std.proofs.lemmas.List.Elements.{All-from_recursion, All-map, recursion_from_All}
use Rattle.ring_words.specs.Limits.{long_count}
use Rattle.ring_words.specs.declared.request.Limits.{Limits}
use Rattle.ring_words.specs.declared.command.Reply.{Reply}
use Rattle.request_book.specs.Log.{delivery_of, log_answers, log_deliveries}
use Rattle.request_book.specs.declared.book.Fault.{Fault}
use Rattle.request_book.proofs.Log.{run_again}
use Rattle.builder.specs.Life.{BookAnswers, BookCalls, BookContent, IsProperCall, IsProperDelivery}
use Rattle.builder.specs.Life.{IsSure, IsSureRun, Lives}
use Rattle.builder.specs.Safety.{AreValid, BookEntry, Entries, IsProperEntry}
use Rattle.builder.specs.Step.{Step}
use Rattle.builder.proofs.Lives.{IsProperly, proper_life}
use Rattle.builder.proofs.OneBook.{same_book}
use Rattle.builder.proofs.OneLife.{one_life}

-- the kept reply of an entry as an answer
abbrev answer_of : BookEntry → Result Reply Fault
answer_of entry = Ok entry.reply

answers_sure : (es : Entries) → AllByRecursion (λ (e : BookEntry). IsSure (answer_of e)) es
answers_sure [] = tt
answers_sure (e ∷ es) = (tt, answers_sure es)

module _ (limits : Limits) (limit : ℕ) (old new : BookContent) (runs : List BookCalls)
    (lives : Lives limits limit old runs new) (empty : old.book ≡ []) (room : length new.book ≤ limit)
  where
    -- the entries may be answered by the kept replies
    pub replay : IsSureRun limits limit old (log_deliveries new.book) (log_answers new.book) new
    replay =
        let one = one_life limits limit old new runs lives in
        record {
          as_many = length-map new.book answer_of ∙ sym (length-map new.book delivery_of);
          sure = All-map (λ (a : Result Reply Fault). IsSure a) answer_of new.book
              (All-from_recursion (λ (e : BookEntry). IsSure (answer_of e)) new.book
              (answers_sure new.book));
          run = run_again (Step limits) limit old false one.settled new one.run one.unfailed empty
              room;
        }

    -- and wherever nothing fails they are
    pub replay_only : (after : BookContent) (others : BookAnswers) → old.hour < long_count
        → AreValid old.state → All (All IsProperCall) runs
        → IsSureRun limits limit old (log_deliveries new.book) others after
        → (others ≡ log_answers new.book) × (after ≡ new)
    replay_only after others small valid proper ran =
        let all : IsProperly old new = proper_life limits limit old new runs lives small
        (recursion_from_All (All IsProperCall) runs proper) in
        let book : new.book ≡ all.entries =
        all.book ∙ ap (λ (b : Entries). b ++ all.entries) empty in
        let each : All IsProperEntry new.book = subst (All IsProperEntry) (sym book) all.proper in
        let same = same_book limits limit old new after (log_deliveries new.book)
        (log_answers new.book) others replay.as_many ran.as_many replay.sure ran.sure small
        (All-map IsProperDelivery delivery_of new.book each) valid replay.run ran.run in
        (sym same.0, sym same.1)
