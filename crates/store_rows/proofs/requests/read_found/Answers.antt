use Rattle.std.proofs.Common.{ap, sym, subst, ◌∙◌, Err, ◌≡◌}
use Rattle.std.specs.Option.{option_map}
use Rattle.ring_words.specs.Spelling.{Reads}
use Rattle.ring_words.specs.declared.command.Reply.{Reply}
use Rattle.ring_words.specs.declared.spelling.SpellingFault.{SpellingFault}
use Rattle.ring_words.specs.declared.spelling.SpellingFault.TheVariants.{Bad}
use Rattle.ring_messages.specs.Replies.{reply_text, IsProperReply}
use Rattle.store_model.specs.Contents.{kept_of}
use Rattle.store_rows.proofs.RequestKeys.{is_new, is_other, is_same, is_good}
use Rattle.store_rows.proofs.requests.read_found.Goals as goal

pub returns-in_default-clause-found : goal.returns-in_default-clause-found
returns-in_default-clause-found c = λ content key held is. is_new content key held _ is
    c.args.command.now (ap (option_map kept_of) c.in_default.is)

pub returns-then-not-branch-clause-found : goal.returns-then-not-branch-clause-found
returns-then-not-branch-clause-found c = λ content key held is.
    is_other content key held _ is c.args.command.now (kept_of c.in-Some.kept)
    (ap (option_map kept_of) c.in-Some.is)
    (λ same. let t = c.in_ok-is_text_of.ensures.1 (same ∙ sym c.as_str.ensures.value) in cc)

pub returns-in-Ok-clause-found : goal.returns-in-Ok-clause-found
returns-in-Ok-clause-found c = λ content key held is.
    is_same content key held _ is c.args.command.now c.one_text.ensures c.one_reply.ensures
    c.command_is_proper.ensures
    (kept_of c.in-Some.kept) (ap (option_map kept_of) c.in-Some.is) (c.in_ok-is_text_of.ensures.0
    c.if-not-branch.false ∙ c.as_str.ensures.value)
    c.in-Ok.reply c.in-Ok.ensures.0 (sym c.as_str-2.ensures.value ∙ c.in-Ok.ensures.1)

pub returns-clause-good : goal.returns-clause-good
returns-clause-good c = λ content key held is bad.
    let same : c.in-Err.fault ≡ Bad = cc in
    let none = subst (λ (f : SpellingFault). Reads (λ (r : Reply). IsProperReply r ×
    (c.as_str-2.result.now ≡ reply_text r)) (Err f)) same c.in-Err.ensures in
    is_good content key held _ is c.args.command.now c.one_text.ensures c.one_reply.ensures
    c.command_is_proper.ensures
    (kept_of c.in-Some.kept) (ap (option_map kept_of) c.in-Some.is) (λ r h. none r (
      h.0,
      c.as_str-2.ensures.value ∙ h.1,
    ))
