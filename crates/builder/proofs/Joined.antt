-- Runs one after the other are safe as one.
use Rattle.std.proofs.Common.{◌≡◌, ℕ, ◌++◌, Bool, List, [], ◌∷◌, append_assoc, refl, sym, ap, subst}
use Rattle.std.proofs.Common.{◌∙◌}
use Rattle.std.specs.Option.{option_to_list}
use Rattle.ring_words.specs.declared.request.Limits.{Limits}
use Rattle.ring_words.specs.declared.command.Command.{Command}
use Rattle.ring_words.specs.declared.command.Reply.{Reply}
use Rattle.request_book.specs.Call.{Call}
use Rattle.request_book.specs.Content.{Content}
use Rattle.request_book.specs.Once.{once}
use Rattle.request_book.specs.Run.{Chain, Leads, Run, kept, last_hour}
use Rattle.request_book.proofs.Once.{kept-append}
use Rattle.builder.specs.Safety.{Entries, LeadsSafely}
use Rattle.builder.specs.Step.{State, Step}
use Rattle.builder.proofs.Safe.{safe_leads}

chain-append : (limits : Limits) (old : State) (before after : Entries) (mid new : State)
    → Chain (Step limits) old before mid → Chain (Step limits) mid after new
    → Chain (Step limits) old (before ++ after) new
chain-append limits old [] after mid new first second =
    subst (λ (s : State). Chain (Step limits) s after new) first second
chain-append limits old (e ∷ es) after mid new first second =
    (first.0, first.1, chain-append limits first.0 es after mid new first.2 second)

last_hour-append : (hour : ℕ) (before after : Entries)
    → last_hour hour (before ++ after) ≡ last_hour (last_hour hour before) after
last_hour-append hour [] after = refl
last_hour-append hour (e ∷ es) after = last_hour-append e.hour es after

-- What is decided after what was decided leads on.
pub leads_on : (limits : Limits) (old mid new : Content State Command Reply)
    (before after : Entries) → Leads (Step limits) old before mid
    → Leads (Step limits) mid after new → Leads (Step limits) old (before ++ after) new
leads_on limits old mid new before after first second =
    let all : kept old.hour before ++ kept mid.hour after ≡ kept old.hour (before ++ after) =
    ap (λ (h : ℕ). kept old.hour before ++ kept h after) first.hour ∙ sym
    (kept-append old.hour before after) in
    record {
      book = second.book ∙ ap (λ (b : Entries). b ++ kept mid.hour after) first.book
          ∙ append_assoc old.book (kept old.hour before) (kept mid.hour after) ∙ ap
          (λ (es : Entries). old.book ++ es) all;
      chain = subst (λ (es : Entries). Chain (Step limits) old.state es new.state) all
          (chain-append limits old.state (kept old.hour before) (kept mid.hour after) mid.state
          new.state first.chain second.chain);
      hour = second.hour ∙ ap (λ (h : ℕ). last_hour h (kept mid.hour after)) first.hour
          ∙ sym (last_hour-append old.hour (kept old.hour before) (kept mid.hour after)) ∙ ap
          (last_hour old.hour) all;
    }

-- What a run moved rests in the next one too.
pub safe_runs : (limits : Limits) (limit more : ℕ) (closed later : Bool)
    (old mid new : Content State Command Reply) (first second : List (Call Command Reply))
    → Run (Step limits) limit closed old first mid → Run (Step limits) more later mid second new
    → LeadsSafely limits old new
safe_runs limits limit more closed later old mid new first second one two =
    let before : Entries = once old.book first ++ option_to_list one.doubt in
    let after : Entries = once mid.book second ++ option_to_list two.doubt in
    safe_leads limits old new (before ++ after) (leads_on limits old mid new before after one.leads
    two.leads)
