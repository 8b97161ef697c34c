-- One word and one list of fields tell one thing that was done; it is read back from its text.
use Rattle.std.proofs.Common.{◌≡◌, ◌≤◌, ◌∷◌, ℕ, true, Some, None, codes, refl, ap, ◌∙◌, arith}
use Rattle.std.proofs.lemmas.Bool.{and_parts, not-true}
use Rattle.serde_json.specs.Data.{Data, string, no_members, depth}
use Rattle.serde_json.specs.Find.{get}
use Rattle.serde_json.specs.Read.{read, max_depth}
use Rattle.serde_json.specs.Written.{compact_text}
use Rattle.serde_json.proofs.Views.{get_member-put}
use Rattle.ring_words.specs.declared.command.Done.{Done}
use Rattle.ring_words.specs.declared.command.Deed.{Deed}
use Rattle.ring_words.specs.declared.command.Deed.TheVariants.{Create}
use Rattle.ring_words.specs.Kinds.{deed_kind}
use Rattle.ring_messages.specs.Fields.{members, AreProper}
use Rattle.ring_messages.specs.Replies.{done_word, done_fields, done_data}
use Rattle.ring_messages.specs.Inner.Says.{SaysDone}
use Rattle.ring_messages.proofs.FieldKinds.{kinds, same_fields, values}
use Rattle.ring_messages.proofs.FieldLists.{all_there, are_proper, are_short, fields_low}
use Rattle.ring_messages.proofs.FieldLists.{fields_plain, still_there}
use Rattle.ring_messages.proofs.Keys.{are_apart, members_of, names, names_apart, no_name}
use Rattle.ring_messages.proofs.OneKind.{same_kind}
use Rattle.ring_messages.proofs.Plain.{IsPlain, members_plain, put_each, reads_compact}
use Rattle.ring_messages.proofs.Puts.{all_low, each_put}

-- ---- what is seen of each thing done alone

abbrev done : ℕ → Deed → Done
done v x = record { version = v; deed = x }

apart_at : (v : ℕ) (x : Deed) → are_apart (codes "done" ∷ names (done_fields (done v x))) ≡ true
apart_at v Create = refl
apart_at v other = refl

fields_apart : (x : Done) → are_apart (codes "done" ∷ names (done_fields x)) ≡ true
fields_apart x = apart_at x.version x.deed

short_at : (v : ℕ) (x : Deed) → are_short (done_fields (done v x)) ≡ true
short_at v Create = refl
short_at v other = refl

short : (x : Done) → are_short (done_fields x) ≡ true
short x = short_at x.version x.deed

ordered_at : (v : ℕ) (x : Deed) → put_each (members_of (done_data (done v x))) no_members
    ≡ members_of (done_data (done v x))
ordered_at v Create = refl
ordered_at v other = refl

ordered : (x : Done) → put_each (members_of (done_data x)) no_members ≡ members_of (done_data x)
ordered x = ordered_at x.version x.deed

no_rule_at : (v : ℕ) (x : Deed) → get (codes "rule") (done_data (done v x)) ≡ None
no_rule_at v Create = refl
no_rule_at v other = refl

pub no_rule : (x : Done) → get (codes "rule") (done_data x) ≡ None
no_rule x = no_rule_at x.version x.deed

-- ---- one object tells one thing done

same_kinds : (v w : ℕ) (x y : Deed) → deed_kind x ≡ deed_kind y
    → kinds (done_fields (done v x)) ≡ kinds (done_fields (done w y))
same_kinds v w Create Create is = cc
same_kinds v w x Create is = cc
same_kinds v w x y is = cc

same_deed : (v w : ℕ) (x y : Deed) → deed_kind x ≡ deed_kind y
    → values (done_fields (done v x)) ≡ values (done_fields (done w y)) → x ≡ y
same_deed v w Create Create is e = cc
same_deed v w x Create is e = cc
same_deed v w x y is e = cc

same_version : (v w : ℕ) (x y : Deed)
    → values (done_fields (done v x)) ≡ values (done_fields (done w y)) → v ≡ w
same_version v w x y e = cc

same_values : (x y : Done) → deed_kind x.deed ≡ deed_kind y.deed
    → values (done_fields x) ≡ values (done_fields y) → x ≡ y
same_values x y is e =
    ap (λ (v : ℕ). done v x.deed) (same_version x.version y.version x.deed y.deed e)
    ∙ ap (done y.version) (same_deed x.version y.version x.deed y.deed is e)

pub same_done : (d : Data) (x y : Done) → SaysDone d x → SaysDone d y → x ≡ y
same_done d x y h k =
    let is = same_kind _ (deed_kind x.deed) (deed_kind y.deed) h.word k.word in
    same_values x y is
    (ap values
    (same_fields d (done_fields x) (done_fields y)
    (same_kinds x.version y.version x.deed y.deed is) h.fields k.fields))

pub done_says : (x : Done) → AreProper (done_fields x) → SaysDone (done_data x) x
done_says x h =
    let fs = done_fields x in
    let keys = and_parts _ _ (fields_apart x) in
    record {
      word = get_member-put (codes "done") (string (done_word x)) (members fs);
      fields = still_there (codes "done") (string (done_word x)) (members fs) fs
          (no_name (codes "done") fs (not-true _ keys.0)) (all_there fs (names_apart fs keys.1) h);
    }

pub done_proper : (d : Data) (x : Done) → SaysDone d x → AreProper (done_fields x)
done_proper d x h = are_proper d (done_fields x) h.fields

pub done_reads : (x : Done) → AreProper (done_fields x)
    → read (compact_text (done_data x)) ≡ Some (done_data x)
done_reads x h =
    let fs = done_fields x in
    let flat = all_low 2 (members_of (done_data x))
    (each_put (λ k d. depth d ≤ 2) (codes "done") (string (done_word x)) (members fs) (omega arith)
    (fields_low fs)) in
    let low : depth (done_data x) ≤ max_depth = omega (arith, flat) in
    let plain : IsPlain (done_data x) = (
      members_plain (members_of (done_data x))
          (each_put (λ k d. IsPlain d) (codes "done") (string (done_word x)) (members fs) tt
          (fields_plain fs (short x) h)),
      ordered x,
    ) in
    reads_compact (done_data x) plain low
