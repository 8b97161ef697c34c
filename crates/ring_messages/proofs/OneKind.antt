-- One word is of one command.
use Rattle.std.proofs.Common.{◌≡◌, Option, Some, true, bytes_eq, sym, ◌∙◌}
use Rattle.std.proofs.lemmas.Slice.Eq.{bytes_eq-Decides}
use Rattle.serde_json.specs.Data.{Data, string}
use Rattle.ring_words.specs.declared.command.Kind.{Kind}
use Rattle.ring_words.specs.declared.command.Kind.TheVariants.{Create}
use Rattle.ring_messages.specs.Words.{kind_word}
use Rattle.ring_messages.proofs.OneValue.{same_text_at}

one_kind : (j k : Kind) → bytes_eq (kind_word j) (kind_word k) ≡ true → j ≡ k
one_kind Create Create word = cc
one_kind j Create word = cc
one_kind j k word = cc

pub same_kind : (found : Option Data) (j k : Kind) → found ≡ Some (string (kind_word j))
    → found ≡ Some (string (kind_word k)) → j ≡ k
same_kind found j k here there =
    one_kind j k
    ((bytes_eq-Decides (kind_word j) (kind_word k)).1 (same_text_at _ _ (sym here ∙ there)))
