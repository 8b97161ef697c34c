-- What the table of requests has of a key.
use Rattle.std.proofs.Common.{◌≡◌, ◌≢◌, ℕ, ◌+◌, pos, Bool, true, false, cond, List, [], ◌∷◌, map}
use Rattle.std.proofs.Common.{Option, Some, None, IfSome, refl, sym, ap, subst, ◌∙◌, find}
use Rattle.std.specs.List.{enumerate_from, AllByRecursion}
use Rattle.std.specs.Bool.{Decides}
use Rattle.std.specs.Ordering.{is_eq, eq_by_cmp}
use Rattle.std.specs.FinMap as maps
use Rattle.std.proofs.lemmas.Bool.{and_from, and_parts}
use Rattle.std.proofs.lemmas.Bool.Decides.{same_from_decides, Decides-eqb}
use Rattle.std.proofs.lemmas.Slice.Eq.{bytes_eq-Decides}
use Rattle.std.proofs.lemmas.Cmp.{tied_itself}
use Rattle.std.proofs.lemmas.List.Elements.{recursion_from_All}
use Rattle.ring_words.specs.declared.request.Key.{Key}
use Rattle.ring_words.specs.declared.command.Command.{Command}
use Rattle.ring_words.specs.declared.command.Reply.{Reply}
use Rattle.ring_messages.specs.Commands.{canonical, IsProperCommand}
use Rattle.ring_messages.specs.Replies.{reply_text, IsProperReply}
use Rattle.request_book.specs.Content.{entry_of, same_key}
use Rattle.request_book.specs.Keeper.{IsFound}
use Rattle.request_book.specs.declared.keeper.Found.TheVariants.{New, Same, Other}
use Rattle.store_model.specs.Entries as rows
use Rattle.store_model.proofs.Keys.{name_number_total, name_number_exact, tied}
use Rattle.store_rows.specs.Stands.{DecidedRequest, RingContent, IsDecision, IsHoldable}
use Rattle.store_rows.specs.Stands.{key_of_request, request_entry, request_entries}

-- two keys of requests tie where they are one
pub same_keys : (a b : Key) → eq_by_cmp rows.name_number_cmp (key_of_request a) (key_of_request b) ≡
    same_key b a
same_keys a b = same_from_decides {P = (a.caller ≡ b.caller) × (a.number ≡ b.number)} _ _ by_rows
    by_keys
  where
    by_rows : Decides (eq_by_cmp rows.name_number_cmp (key_of_request a) (key_of_request b))
        ((a.caller ≡ b.caller) × (a.number ≡ b.number))
    by_rows = (
      λ t. let e : key_of_request a ≡ key_of_request b = name_number_exact _ _ (tied _ t) in
          let n : pos a.number ≡ pos b.number = ap (λ (k : rows.NameNumber). k.1) e in
          (ap (λ (k : rows.NameNumber). k.0) e, cc),
      λ h. let e : key_of_request a ≡ key_of_request b = λ i. (h.0 i, pos (h.1 i)) in
          ap (λ (k : rows.NameNumber). is_eq (rows.name_number_cmp (key_of_request a) k)) (sym e) ∙
          ap is_eq (tied_itself name_number_total (key_of_request a)),
    )

    by_keys : Decides (same_key b a) ((a.caller ≡ b.caller) × (a.number ≡ b.number))
    by_keys = (
      λ t. let both = and_parts _ _ t in (
        sym ((bytes_eq-Decides b.caller a.caller).0 both.0),
        sym ((Decides-eqb b.number a.number).0 both.1),
      ),
      λ h. and_from _ _ ((bytes_eq-Decides b.caller a.caller).1 (sym h.0))
          ((Decides-eqb b.number a.number).1 (sym h.1)),
    )

-- what the table has of a key is the row of the book's entry of that key
abbrev pub IsRowOf : Option DecidedRequest → Option rows.Request → Type 0
IsRowOf None row = row ≡ None
IsRowOf (Some e) row = (place : ℕ) × (row ≡ Some (request_entry (place, e)).1)

pub row_of_entry : (key : Key) (n : ℕ) (book : List DecidedRequest) →
    IsRowOf (entry_of key book) (maps.find rows.name_number_cmp (key_of_request key)
    (map request_entry (enumerate_from n book)))
row_of_entry key n [] = refl
row_of_entry key n (e ∷ es) =
    let rest = maps.find rows.name_number_cmp (key_of_request key)
    (map request_entry (enumerate_from (n + 1) es)) in
    subst (λ t. IsRowOf (cond (same_key e.key key) (Some e) (entry_of key es))
    (cond t (Some (request_entry (n, e)).1) rest)) (sym (same_keys key e.key))
    (elim (same_key e.key key) as (λ b. IsRowOf (cond b (Some e) (entry_of key es))
    (cond b (Some (request_entry (n, e)).1) rest)) [
      | true ↦ (n, refl)
      | false ↦ row_of_entry key (n + 1) es
    ])

pub holds_of_found : {X : Type 0} (P : X → Type 0) (p : X → Bool) (xs : List X) →
    AllByRecursion P xs → IfSome (find p xs) P
holds_of_found P p [] all = tt
holds_of_found P p (x ∷ xs) all = elim (p x) as (λ b. IfSome (cond b (Some x) (find p xs)) P)
    [ true ↦ all.0 | false ↦ holds_of_found P p xs all.1 ]

module _ (content : RingContent) (key : Key) (held : IsHoldable content)
    (found : Option rows.Request)
    (is : found ≡ maps.get (maps.from_entries {K = rows.NameNumber} {R = rows.name_number_cmp}
    (request_entries content.book)) (key_of_request key))
    (command : Command) where
  found_is : IsRowOf (entry_of key content.book) found
  found_is = subst (IsRowOf (entry_of key content.book))
      (sym (is ∙ maps.get-from_entries name_number_total (request_entries content.book)
      (key_of_request key))) (row_of_entry key 0 content.book)

  decision : IfSome (entry_of key content.book) IsDecision
  decision = holds_of_found IsDecision (λ e. same_key e.key key) content.book
      (recursion_from_All IsDecision content.book held.book.each)

  none_is : (o : Option DecidedRequest) → IsRowOf o found → found ≡ None → IsFound o command New
  none_is None row none = tt
  none_is (Some e) row none = cc

  other_is : (o : Option DecidedRequest) (kept : rows.Request) → IsRowOf o found →
      found ≡ Some kept → canonical command ≢ kept.command → IsFound o command Other
  other_is None kept row some apart = cc
  other_is (Some e) kept row some apart =
      λ same. apart (ap canonical (sym same) ∙ ap (λ (o : Option rows.Request). text_of o)
      (sym row.1 ∙ some))
    where
      text_of : Option rows.Request → List ℕ
      text_of None = []
      text_of (Some r) = r.command

  module _ (one_text : (c d : Command) → IsProperCommand c → IsProperCommand d →
      canonical c ≡ canonical d → c ≡ d)
      (one_reply : (r s : Reply) → IsProperReply r → IsProperReply s → reply_text r ≡ reply_text s →
      r ≡ s)
      (proper : IsProperCommand command) where
    texts_are : (e : DecidedRequest) (kept : rows.Request) → IsRowOf (Some e) found →
        found ≡ Some kept → (kept.command ≡ canonical e.command) × (kept.reply ≡ reply_text e.reply)
    texts_are e kept row some =
        let same : Some kept ≡ Some (request_entry (row.0, e)).1 = sym some ∙ row.1 in
        let one : kept ≡ (request_entry (row.0, e)).1 = cc in
        (ap (λ (r : rows.Request). r.command) one, ap (λ (r : rows.Request). r.reply) one)

    same_is : (o : Option DecidedRequest) (kept : rows.Request) → IsRowOf o found →
        IfSome o IsDecision → found ≡ Some kept → canonical command ≡ kept.command →
        (reply : Reply) → IsProperReply reply → kept.reply ≡ reply_text reply →
        IsFound o command (Same reply)
    same_is None kept row decided some same reply good text = cc
    same_is (Some e) kept row decided some same reply good text =
        let texts = texts_are e kept row some in (
          one_text e.command command decided.command proper (sym (same ∙ texts.0)),
          one_reply reply e.reply good decided.reply (sym text ∙ texts.1),
        )

    good_is : (o : Option DecidedRequest) (kept : rows.Request) → IsRowOf o found →
        IfSome o IsDecision → found ≡ Some kept →
        ((r : Reply) → (IsProperReply r × (kept.reply ≡ reply_text r)) → ⊥) → ⊥
    good_is None kept row decided some bad = cc
    good_is (Some e) kept row decided some bad = bad e.reply (
      decided.reply,
      (texts_are e kept row some).1,
    )

  pub is_new : found ≡ None → IsFound (entry_of key content.book) command New
  is_new none = none_is _ found_is none

  pub is_other : (kept : rows.Request) → found ≡ Some kept → canonical command ≢ kept.command →
      IsFound (entry_of key content.book) command Other
  is_other kept some apart = other_is _ kept found_is some apart

  pub is_same : ((c d : Command) → IsProperCommand c → IsProperCommand d →
      canonical c ≡ canonical d → c ≡ d)
      → ((r s : Reply) → IsProperReply r → IsProperReply s → reply_text r ≡ reply_text s → r ≡ s) →
      IsProperCommand command
      → (kept : rows.Request) → found ≡ Some kept → canonical command ≡ kept.command →
      (reply : Reply) → IsProperReply reply → kept.reply ≡ reply_text reply →
      IsFound (entry_of key content.book) command (Same reply)
  is_same text reply proper kept some = same_is text reply proper _ kept found_is decision some

  pub is_good : ((c d : Command) → IsProperCommand c → IsProperCommand d →
      canonical c ≡ canonical d → c ≡ d)
      → ((r s : Reply) → IsProperReply r → IsProperReply s → reply_text r ≡ reply_text s → r ≡ s) →
      IsProperCommand command
      → (kept : rows.Request) → found ≡ Some kept →
      ((r : Reply) → (IsProperReply r × (kept.reply ≡ reply_text r)) → ⊥) → ⊥
  is_good text reply proper kept some = good_is text reply proper _ kept found_is decision some
