use Rattle.std.proofs.Common.{◌∙◌, ◌++◌, ◌∷◌, [], List, ℕ, ap, arith, string_bytes}
use Rattle.std.proofs.lemmas.List.{take_all}
use Rattle.ring_log.specs.Log.{DecidedEntry, entries_text, entry_text}
use Rattle.ring_log.proofs.Entries.{text_more}
use Rattle.ring_log.proofs.text.entries_text.Goals as goal

pub loop-index-preserved : goal.loop-index-preserved
loop-index-preserved c =
    let form = c.args.form in
    let entry = c.index-entries-index.result in
    text_more form c.args.from c.args.entries.now c.loop-index.index entry
    (string_bytes c.loop-index.text) (string_bytes c.push_text.new.into) c.loop-index-test.true
    c.index-entries-index.is c.loop-index.invariant
    (c.in_ok-push_text.ensures
    ∙ ap (λ (n : ℕ). string_bytes c.loop-index.text ++ (entry_text form n entry ++ 10 ∷ []))
    c.next_place-place.ensures)

pub returns : goal.returns
returns c = c.loop-index.invariant
    ∙ ap (λ (es : List DecidedEntry). entries_text c.args.form c.args.from es)
    (take_all c.loop-index.index c.args.entries.now (omega arith))
