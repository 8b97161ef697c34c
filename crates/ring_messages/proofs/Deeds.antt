-- What an object says of a deed, where the command of its word did it.
use Rattle.std.proofs.Common.{◌≡◌, ℕ, Err, Some, codes}
use Rattle.serde_json.specs.Data.{Data, string}
use Rattle.serde_json.specs.Find.{get}
use Rattle.ring_words.specs.Kinds.{deed_kind}
use Rattle.ring_words.specs.Spelling.{Reads}
use Rattle.ring_words.specs.declared.command.Deed.{Deed}
use Rattle.ring_words.specs.declared.command.Deed.TheVariants as deed
use Rattle.ring_words.specs.declared.command.Kind.{Kind}
use Rattle.ring_words.specs.declared.command.Kind.TheVariants.{Import, Rebalance, RebalanceAs}
use Rattle.ring_words.specs.declared.spelling.SpellingFault.{SpellingFault}
use Rattle.ring_words.proofs.Spelled.{reads_err}
use Rattle.ring_messages.specs.Inner.Says.{HasFields}
use Rattle.ring_messages.specs.Replies.{deed_fields, figures}
use Rattle.ring_messages.specs.Words.{kind_word}
use Rattle.ring_messages.proofs.OneKind.{same_kind}

-- The object has the word of the command that did this, and tells it.
abbrev pub Tells : Data → Deed → Type 0
Tells d x = (get (codes "done") d ≡ Some (string (kind_word (deed_kind x))))
    × HasFields d (deed_fields x)

-- Where a part of what this command did can't be read, the deed can't.
pub part_bad : {X : Type 0} (P : X → Type 0) (d : Data) (k : Kind) (e : SpellingFault)
    → get (codes "done") d ≡ Some (string (kind_word k)) → Reads P (Err e)
    → ((x : Deed) → deed_kind x ≡ k → HasFields d (deed_fields x) → (y : X) × P y)
    → Reads (Tells d) (Err e)
part_bad P d k e word bad part =
    reads_err P (Tells d) e bad (λ x h. part x (same_kind _ (deed_kind x) k h.0 word) h.1)

pub of_rebalance : (d : Data) (x : Deed) → deed_kind x ≡ Rebalance → HasFields d (deed_fields x)
    → (f : ℕ × ℕ × ℕ) × HasFields d (figures f.0 f.1 f.2)
of_rebalance d (deed.Rebalance b c v) is h = ((b, c, v), h)
of_rebalance d x is h = cc

pub of_rebalance_as : (d : Data) (x : Deed) → deed_kind x ≡ RebalanceAs
    → HasFields d (deed_fields x) → (f : ℕ × ℕ × ℕ) × HasFields d (figures f.0 f.1 f.2)
of_rebalance_as d (deed.RebalanceAs b c v) is h = ((b, c, v), h)
of_rebalance_as d x is h = cc

pub of_import : (d : Data) (x : Deed) → deed_kind x ≡ Import → HasFields d (deed_fields x)
    → (n : ℕ × ℕ) × HasFields d (deed_fields (deed.Import n.0 n.1))
of_import d (deed.Import a r) is h = ((a, r), h)
of_import d x is h = cc
