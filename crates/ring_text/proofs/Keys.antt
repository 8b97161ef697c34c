-- What follows a key at the front of a line.
use Rattle.std.proofs.Common.{◌≡◌, ℕ, ◌++◌, List, decimal, sym, ap, ◌∙◌}
use Rattle.std.proofs.lemmas.List.{append_cancel_left}
use Rattle.ring_words.specs.Texts.{is_label}
use Rattle.ring_words.specs.Spelling.{SpellsNumber, SpellsName}
use Rattle.ring_text.specs.Inner.Reading.{IsNumberAfter, IsNameAfter}

pub number_after_of : (key line rest : List ℕ) (l m n : ℕ) → line ≡ key ++ rest →
    SpellsNumber rest l m n → IsNumberAfter key line l m n
number_after_of key line rest l m n e h = record {
  is = e ∙ ap (λ (x : List ℕ). key ++ x) h.is;
  above = h.above;
  below = h.below;
}

pub number_of_after : (key line rest : List ℕ) (l m n : ℕ) → line ≡ key ++ rest →
    IsNumberAfter key line l m n → SpellsNumber rest l m n
number_of_after key line rest l m n e h = record {
  is = append_cancel_left key rest (decimal n)
      (sym e ∙ h.is);
  above = h.above;
  below = h.below;
}

pub name_after_of : (key line rest name : List ℕ) → line ≡ key ++ rest →
    SpellsName is_label rest name → IsNameAfter key line name
name_after_of key line rest name e h = record {
  is = e ∙ ap (λ (x : List ℕ). key ++ x) h.is;
  valid =
      h.valid;
}

pub name_of_after : (key line rest name : List ℕ) → line ≡ key ++ rest → IsNameAfter key line name →
    SpellsName is_label rest name
name_of_after key line rest name e h =
    record { is = append_cancel_left key rest name (sym e ∙ h.is); valid = h.valid }
