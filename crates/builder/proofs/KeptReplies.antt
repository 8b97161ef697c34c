-- The replies of all runs over one store are the ones that its book keeps.
use Rattle.std.proofs.Common.{◌≡◌, ◌∙◌, ℕ, ◌++◌, List, [], ◌∷◌, Option, Some, None, false, sym}
use Rattle.std.proofs.Common.{append_assoc, refl, subst}
use Rattle.std.specs.Prelude.{All, Err, IsSomeAnd, Ok}
use Rattle.std.proofs.lemmas.List.Elements.{All-cons, All-nil, All-weaker}
use Rattle.ring_words.specs.declared.request.Limits.{Limits}
use Rattle.ring_words.specs.declared.command.Command.{Command}
use Rattle.ring_words.specs.declared.command.Reply.{Reply}
use Rattle.request_book.specs.Call.{Call, Deliver, Load}
use Rattle.request_book.specs.Content.{Content, entry_of}
use Rattle.request_book.specs.Run.{Run}
use Rattle.request_book.specs.declared.entry.Entry.{Entry}
use Rattle.request_book.proofs.Alike.{kept_on, kept_reply}
use Rattle.builder.specs.Life.{KeepsReply, Lives}
use Rattle.builder.specs.Safety.{Entries, LeadsSafely}
use Rattle.builder.specs.Step.{State, Step}
use Rattle.builder.proofs.Lives.{led_life}

-- what is kept stays kept as the book grows
keeps_on : (book more : Entries) (call : Call Command Reply) → KeepsReply book call
    → KeepsReply (book ++ more) call
keeps_on book more (Deliver d (Ok p)) keeps = on (entry_of d.key book) refl keeps
  where
    on : (had : Option (Entry Command Reply)) → entry_of d.key book ≡ had
        → IsSomeAnd had (λ e. (e.command ≡ d.command) × (e.reply ≡ p))
        → KeepsReply (book ++ more) (Deliver d (Ok p))
    on None is keeps = absurd keeps
    on (Some e) is keeps = subst (λ o. IsSomeAnd o (λ x. (x.command ≡ d.command) × (x.reply ≡ p)))
        (sym (kept_on book more d.key e is)) keeps
keeps_on book more (Deliver d (Err why)) keeps = tt
keeps_on book more (Load answer) keeps = tt

-- each call of a run after these
run_keeps : (limits : Limits) (limit : ℕ) (old new : Content State Command Reply)
    (all : List (Call Command Reply)) → Run (Step limits) limit false old all new
    → (before calls : List (Call Command Reply)) → all ≡ before ++ calls
    → All (KeepsReply new.book) calls
run_keeps limits limit old new all run before [] is = All-nil (KeepsReply new.book)
run_keeps limits limit old new all run before (call ∷ calls) is =
    All-cons (KeepsReply new.book) call calls (one call is)
    (run_keeps limits limit old new all run (before ++ call ∷ []) calls
    (is ∙ sym (append_assoc before (call ∷ []) calls)))
  where
    one : (c : Call Command Reply) → all ≡ before ++ c ∷ calls → KeepsReply new.book c
    one (Deliver d (Ok p)) at =
        let kept = kept_reply (Step limits) limit false old all new run before d p calls at in
        subst (λ o. IsSomeAnd o (λ x. (x.command ≡ d.command) × (x.reply ≡ p))) (sym kept.1)
        (kept.2, sym kept.3)
    one (Deliver d (Err why)) at = tt
    one (Load answer) at = tt

-- Each reply of a life is the one that the last book keeps.
pub life_keeps : (limits : Limits) (limit : ℕ) (old new : Content State Command Reply)
    (runs : List (List (Call Command Reply))) → Lives limits limit old runs new
    → All (All (KeepsReply new.book)) runs
life_keeps limits limit old new [] same = All-nil (All (KeepsReply new.book))
life_keeps limits limit old new (calls ∷ later) lives =
    let rest : LeadsSafely limits lives.0 new = led_life limits limit lives.0 new later lives.2 in
    All-cons (All (KeepsReply new.book)) calls later
    (All-weaker (KeepsReply lives.0.book) (KeepsReply new.book)
    (λ call keeps. subst (λ (b : Entries). KeepsReply b call) (sym rest.book)
    (keeps_on lives.0.book rest.entries call keeps)) calls
    (run_keeps limits limit old lives.0 calls lives.1 [] calls refl))
    (life_keeps limits limit lives.0 new later lives.2)
