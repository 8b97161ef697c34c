-- What is written of a value is read back as it, so one text is of one value.
use Rattle.std.proofs.Common.{◌≡◌, List, ℕ, Some, Err, bytes_eq, false, true≢false, sym, ap, subst}
use Rattle.std.proofs.Common.{◌∙◌}
use Rattle.std.specs.Prelude.{IsUtf8}
use Rattle.std.proofs.lemmas.Option.{same_Some}
use Rattle.std.proofs.lemmas.Slice.Eq.{bytes_eq-Decides}
use Rattle.serde_json.specs.Data.{Data}
use Rattle.serde_json.specs.Read.{read}
use Rattle.serde_json.specs.View.{view}
use Rattle.serde_json.specs.Written.{compact_text}
use Rattle.ring_words.specs.Spelling.{Reads}
use Rattle.ring_words.specs.Inner.ReadsAs.{ReadsAs}
use Rattle.ring_words.specs.declared.spelling.SpellingFault.{SpellingFault}
use Rattle.ring_words.proofs.Spelled.{reads_err, as_reads_err}

-- the object of a proper value is read back from its text, and says that value alone
pub record IsReadable {X : Type 0} (object : X → Data) (IsProper : X → Type 0)
    (Says : Data → X → Type 0) : Type 0 where
  pub back : (x : X) → IsProper x → read (compact_text (object x)) ≡ Some (object x)
  pub own : (x : X) → IsProper x → Says (object x) x
  pub same : (d : Data) (x y : X) → Says d x → Says d y → x ≡ y

-- the text is that of this proper value
abbrev pub IsTextOf : {X : Type 0} → (X → Data) → (X → Type 0) → List ℕ → X → Type 0
IsTextOf object IsProper text x = IsProper x × (text ≡ compact_text (object x))

-- what is read of a text of a value says the value
pub is_read : {X : Type 0} (object : X → Data) (IsProper : X → Type 0) (Says : Data → X → Type 0)
    → IsReadable object IsProper Says → (t : List ℕ) (d : Data) (x : X)
    → IsTextOf object IsProper t x → read t ≡ Some d → Says d x
is_read object IsProper Says r t d x h is =
    let same : object x ≡ d = same_Some _ _ (sym (r.back x h.0) ∙ sym (ap read h.1) ∙ is) in
    subst (λ (y : Data). Says y x) same (r.own x h.0)

pub one_text : {X : Type 0} (object : X → Data) (IsProper : X → Type 0) (Says : Data → X → Type 0)
    → IsReadable object IsProper Says → (x y : X) → IsProper x → IsProper y
    → compact_text (object x) ≡ compact_text (object y) → x ≡ y
one_text object IsProper Says r x y f g e =
    r.same (object y) x y
    (is_read object IsProper Says r (compact_text (object y)) (object y) x (f, sym e) (r.back y g))
    (r.own y g)

-- ---- a text that isn't read is of no value

pub no_value : {X : Type 0} (object : X → Data) (IsProper : X → Type 0) (Says : Data → X → Type 0)
    → IsReadable object IsProper Says → (bytes text : List ℕ) (e : SpellingFault)
    → IsUtf8 bytes → bytes ≡ text
    → ReadsAs view (λ d. IsUtf8 bytes × (read bytes ≡ Some d)) (Err e)
    → Reads (IsTextOf object IsProper text) (Err e)
no_value object IsProper Says r bytes text e utf8 same h =
    as_reads_err view (λ d. IsUtf8 bytes × (read bytes ≡ Some d)) (IsTextOf object IsProper text)
    e h
    (λ x q. (object x, (utf8, ap read (same ∙ q.1) ∙ r.back x q.0)))

pub says_none : {X : Type 0} (object : X → Data) (IsProper : X → Type 0) (Says : Data → X → Type 0)
    → IsReadable object IsProper Says → (bytes text : List ℕ) (d : Data) (e : SpellingFault)
    → read bytes ≡ Some d → bytes ≡ text → Reads (Says d) (Err e)
    → Reads (IsTextOf object IsProper text) (Err e)
says_none object IsProper Says r bytes text d e is same h =
    reads_err (Says d) (IsTextOf object IsProper text) e h
    (λ x q. (x, is_read object IsProper Says r bytes d x (q.0, same ∙ q.1) is))

-- what a text says is written otherwise: the text is of no value
pub other_text : {X : Type 0} (object : X → Data) (IsProper : X → Type 0) (Says : Data → X → Type 0)
    → IsReadable object IsProper Says → (bytes text written : List ℕ) (d : Data) (y : X)
    → read bytes ≡ Some d → bytes ≡ text → Says d y → written ≡ compact_text (object y)
    → bytes_eq written text ≡ false → (x : X) → IsTextOf object IsProper text x → ⊥
other_text {X = X} object IsProper Says r bytes text written d y is same says of_y differ x h =
    let one : y ≡ x =
    r.same d y x says (is_read object IsProper Says r bytes d x (h.0, same ∙ h.1) is) in
    let text_is : written ≡ text = of_y ∙ ap (λ (z : X). compact_text (object z)) one ∙ sym h.1 in
    true≢false (sym ((bytes_eq-Decides written text).1 text_is) ∙ differ)
