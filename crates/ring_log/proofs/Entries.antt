-- Entries that are told one after another.
use Rattle.std.proofs.Common.{◌≡◌, ◌∙◌, ℕ, ◌+◌, ◌<◌, List, [], ◌∷◌, ◌++◌}
use Rattle.std.proofs.Common.{get_or, length, take, append-nil, append_assoc, ap, arith}
use Rattle.std.proofs.Common.{sym}
use Rattle.std.proofs.lemmas.List.{length-take-le, take_more}
use Rattle.ring_log.specs.Log.{DecidedEntry, entries_text, entry_text}
use Rattle.ring_log.specs.declared.text.LogForm.{LogForm}

text_push : (form : LogForm) (place : ℕ) (es : List DecidedEntry) (e : DecidedEntry)
    → entries_text form place (es ++ e ∷ [])
    ≡ entries_text form place es ++ (entry_text form (place + length es) e ++ 10 ∷ [])
text_push form place [] e =
    let same : place ≡ place + 0 = omega arith in
    append-nil (entry_text form place e ++ 10 ∷ [])
    ∙ ap (λ (n : ℕ). entry_text form n e ++ 10 ∷ []) same
text_push form place (x ∷ es) e =
    let first : List ℕ = entry_text form place x ++ 10 ∷ [] in
    let rest : List ℕ = entries_text form (place + 1) es in
    let same : place + 1 + length es ≡ place + length (x ∷ es) = omega arith in
    ap (λ (text : List ℕ). first ++ text) (text_push form (place + 1) es e
    ∙ ap (λ (n : ℕ). rest ++ (entry_text form n e ++ 10 ∷ [])) same)
    ∙ sym (append_assoc first rest (entry_text form (place + length (x ∷ es)) e ++ 10 ∷ []))

-- the lines of so many entries get that of the next
pub text_more : (form : LogForm) (place : ℕ) (es : List DecidedEntry) (i : ℕ) (e : DecidedEntry)
    (before after : List ℕ) → i < length es → e ≡ get_or es i e
    → before ≡ entries_text form place (take i es)
    → after ≡ before ++ (entry_text form (place + i) e ++ 10 ∷ [])
    → after ≡ entries_text form place (take (i + 1) es)
text_more form place es i e before after lt is so_far more =
    let count : i ≡ length (take i es) = sym (length-take-le i es (omega (arith, lt))) in
    more ∙ ap (λ (text : List ℕ). text ++ (entry_text form (place + i) e ++ 10 ∷ [])) so_far
    ∙ ap (λ (n : ℕ). entries_text form place (take i es) ++ (entry_text form (place + n) e ++ 10 ∷ []))
    count
    ∙ sym (text_push form place (take i es) e)
    ∙ ap (λ (x : DecidedEntry). entries_text form place (take i es ++ x ∷ [])) is
    ∙ ap (λ (xs : List DecidedEntry). entries_text form place xs) (sym (take_more es i e lt))

-- the lines of some entries, and then those of the ones behind them
pub text_append : (form : LogForm) (place : ℕ) (es fs : List DecidedEntry)
    → entries_text form place (es ++ fs)
    ≡ entries_text form place es ++ entries_text form (place + length es) fs
text_append form place [] fs =
    let same : place ≡ place + 0 = omega arith in
    ap (λ (n : ℕ). entries_text form n fs) same
text_append form place (e ∷ es) fs =
    let first : List ℕ = entry_text form place e ++ 10 ∷ [] in
    let rest : List ℕ = entries_text form (place + 1) es in
    let same : place + 1 + length es ≡ place + length (e ∷ es) = omega arith in
    ap (λ (text : List ℕ). first ++ text) (text_append form (place + 1) es fs
    ∙ ap (λ (n : ℕ). rest ++ entries_text form n fs) same)
    ∙ sym (append_assoc first rest (entries_text form (place + length (e ∷ es)) fs))
