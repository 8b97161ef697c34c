-- Rows stand for one book at most.
use Rattle.std.proofs.Common.{◌≡◌, inl, inr, ℕ, zero, suc, ◌+◌, pos, true, false, cond, List, []}
use Rattle.std.proofs.Common.{◌∷◌, map, Some, None, refl, sym, ap, subst, ◌∙◌, arith}
use Rattle.std.specs.List.{AllByRecursion, AllPairs, enumerate_from, slice_get}
use Rattle.std.specs.Ordering.{eq_by_cmp, is_eq}
use Rattle.std.proofs.lemmas.Cmp.{tied_itself}
use Rattle.std.specs.FinMap as maps
use Rattle.std.proofs.lemmas.Bool.{cases_Bool}
use Rattle.std.proofs.lemmas.List.Elements.{recursion_from_All}
use Rattle.ring_words.specs.declared.request.Key.{Key}
use Rattle.ring_words.specs.declared.command.Command.{Command}
use Rattle.ring_words.specs.declared.command.Reply.{Reply}
use Rattle.ring_messages.specs.Commands.{canonical, IsProperCommand}
use Rattle.ring_messages.specs.Replies.{reply_text, IsProperReply}
use Rattle.request_book.specs.Content.{same_key}
use Rattle.store_model.specs.Entries as rows
use Rattle.store_model.proofs.Keys.{name_number_total, name_number_exact, tied}
use Rattle.store_rows.specs.Stands.{DecidedRequest, IsBook, IsDecision, key_of_request}
use Rattle.store_rows.specs.Stands.{request_entry, request_entries}
use Rattle.store_rows.proofs.BookGains.{pairs-head, pairs-tail}
use Rattle.store_rows.proofs.RequestKeys.{same_keys}

abbrev Apart : DecidedRequest → DecidedRequest → Type 0
Apart a b = same_key a.key b.key ≡ false

tied_to_itself : (k : Key) → eq_by_cmp rows.name_number_cmp (key_of_request k) (key_of_request k) ≡
    true
tied_to_itself k = ap is_eq (tied_itself name_number_total (key_of_request k))

-- an element of a list has what holds of all
pub of_all : {X : Type 0} (P : X → Type 0) (xs : List X) (i : ℕ) (x : X) → AllByRecursion P xs →
    slice_get xs i ≡ Some x → P x
of_all P [] i x all at = cc
of_all P (y ∷ ys) zero x all at = let same : y ≡ x = cc in subst P same all.0
of_all P (y ∷ ys) (suc i) x all at = of_all P ys i x all.1 at

-- a request of a book is found under its key
pub found_there : (n : ℕ) (book : List DecidedRequest) (i : ℕ) (e : DecidedRequest) →
    AllPairs Apart book → slice_get book i ≡ Some e
    → maps.find rows.name_number_cmp (key_of_request e.key)
    (map request_entry (enumerate_from n book)) ≡ Some (request_entry (n + i, e)).1
found_there n [] i e apart at = cc
found_there n (b ∷ bs) zero e apart at =
    let same : b ≡ e = cc in
    let here : eq_by_cmp rows.name_number_cmp (key_of_request e.key) (key_of_request b.key) ≡ true =
    ap (λ (x : DecidedRequest). eq_by_cmp rows.name_number_cmp (key_of_request e.key)
    (key_of_request x.key)) same ∙ tied_to_itself e.key in
    ap (λ t. cond t (Some (request_entry (n, b)).1) (maps.find rows.name_number_cmp
    (key_of_request e.key) (map request_entry (enumerate_from (n + 1) bs)))) here
    ∙ ap (λ (x : DecidedRequest). Some (request_entry (n, x)).1) same ∙ ap
    (λ k. Some (request_entry (k, e)).1) (let h : n ≡ n + 0 = omega arith in h)
found_there n (b ∷ bs) (suc i) e apart at =
    let other : same_key b.key e.key ≡ false = of_all (Apart b) bs i e (recursion_from_All (Apart b)
    bs (pairs-head Apart b bs apart)) at in
    ap (λ t. cond t (Some (request_entry (n, b)).1) (maps.find rows.name_number_cmp
    (key_of_request e.key) (map request_entry (enumerate_from (n + 1) bs))))
    (same_keys e.key b.key ∙ other)
    ∙ found_there (n + 1) bs i e (pairs-tail Apart b bs apart) at ∙ ap
    (λ k. Some (request_entry (k, e)).1) (let h : (n + 1) + i ≡ n + suc i = omega arith in h)

-- what is found under a key is a request of the book
pub record IsThere (n : ℕ) (book : List DecidedRequest) (key : rows.NameNumber) (row : rows.Request)
    : Type 0 where
  pub place : ℕ
  pub entry : DecidedRequest
  pub at : slice_get book place ≡ Some entry
  pub is : row ≡ (request_entry (n + place, entry)).1
  pub named : key_of_request entry.key ≡ key

pub is_there : (n : ℕ) (book : List DecidedRequest) (key : rows.NameNumber) (row : rows.Request)
    → maps.find rows.name_number_cmp key (map request_entry (enumerate_from n book)) ≡ Some row →
    IsThere n book key row
is_there n [] key row found = cc
is_there n (b ∷ bs) key row found =
    let rest = maps.find rows.name_number_cmp key (map request_entry (enumerate_from (n + 1) bs)) in
    elim (cases_Bool (eq_by_cmp rows.name_number_cmp key (key_of_request b.key))) [
      | inl here ↦
          let first : Some (request_entry (n, b)).1 ≡ Some row =
          sym (ap (λ t. cond t (Some (request_entry (n, b)).1) rest) here) ∙ found in
          record {
            place = 0;
            entry = b;
            at = refl;
            is = let h : (request_entry (n, b)).1 ≡ row =
                cc in sym h ∙ ap (λ k. (request_entry (k, b)).1) (let g : n ≡ n + 0 = omega arith in
                g);
            named = sym (name_number_exact _ _ (tied _ here));
          }
      | inr other ↦
          let more = is_there (n + 1) bs key row
          (sym (ap (λ t. cond t (Some (request_entry (n, b)).1) rest) other) ∙ found) in
          record {
            place = suc more.place;
            entry = more.entry;
            at = more.at;
            is =
                more.is ∙ ap (λ k. (request_entry (k, more.entry)).1) (let g : (n + 1) + more.place ≡
                n + suc more.place = omega arith in g);
            named = more.named;
          }
    ]

module _ (one_text : (c d : Command) → IsProperCommand c → IsProperCommand d →
    canonical c ≡ canonical d → c ≡ d)
    (one_reply : (r s : Reply) → IsProperReply r → IsProperReply s → reply_text r ≡ reply_text s →
    r ≡ s) where
  pub one_request : (i j : ℕ) (x y : DecidedRequest) → IsDecision x → IsDecision y →
      key_of_request x.key ≡ key_of_request y.key →
      (request_entry (i, x)).1 ≡ (request_entry (j, y)).1 → (i ≡ j) × (x ≡ y)
  one_request i j x y p q named row =
      let caller : x.key.caller ≡ y.key.caller = ap (λ (k : rows.NameNumber). k.0) named in
      let numbers : pos x.key.number ≡ pos y.key.number = ap (λ (k : rows.NameNumber). k.1) named in
      let number : x.key.number ≡ y.key.number = cc in
      let places : pos i ≡ pos j = ap (λ (r : rows.Request). r.place) row in
      let hours : pos x.hour ≡ pos y.hour = ap (λ (r : rows.Request). r.hour) row in
      let hour : x.hour ≡ y.hour = cc in
      let command = one_text x.command y.command p.command q.command
      (ap (λ (r : rows.Request). r.command) row) in
      let reply = one_reply x.reply y.reply p.reply q.reply (ap (λ (r : rows.Request). r.reply) row)
      in (
        cc,
        λ k. record {
          key = record { caller = caller k; number = number k };
          hour = hour k;
          command = command k;
          reply = reply k;
        },
      )

  -- each request of the one book is one of the other, at its place
  also_there : (a b : List DecidedRequest) → AllPairs Apart a → AllByRecursion IsDecision a →
      AllByRecursion IsDecision b
      → ((key : rows.NameNumber) → maps.find rows.name_number_cmp key (request_entries a) ≡
      maps.find rows.name_number_cmp key (request_entries b))
      → (i : ℕ) (e : DecidedRequest) → slice_get a i ≡ Some e → slice_get b i ≡ Some e
  also_there a b apart p q same i e at =
      let there = is_there 0 b (key_of_request e.key) (request_entry (0 + i, e)).1
      (sym (same (key_of_request e.key)) ∙ found_there 0 a i e apart at) in
      let one = one_request (0 + i) (0 + there.place) e there.entry (of_all IsDecision a i e p at)
      (of_all IsDecision b there.place there.entry q there.at) (sym there.named) there.is in
      let place : i ≡ there.place = omega (arith, one.0) in
      subst (λ k. slice_get b k ≡ Some e) (sym place) (there.at ∙ ap Some (sym one.1))

  same_list : {X : Type 0} (a b : List X) → ((i : ℕ) (e : X) → slice_get a i ≡ Some e →
      slice_get b i ≡ Some e) → ((i : ℕ) (e : X) → slice_get b i ≡ Some e → slice_get a i ≡ Some e)
      → a ≡ b
  same_list [] [] f g = refl
  same_list [] (y ∷ b) f g = let h : None ≡ Some y = g 0 y refl in cc
  same_list (x ∷ a) [] f g = let h : None ≡ Some x = f 0 x refl in cc
  same_list (x ∷ a) (y ∷ b) f g =
      let h : Some y ≡ Some x = f 0 x refl in
      let head : x ≡ y = cc in
      let rest = same_list a b (λ i. f (suc i)) (λ i. g (suc i)) in
      λ k. head k ∷ rest k

  pub one_book : (a b : List DecidedRequest) → IsBook a → IsBook b
      → ((key : rows.NameNumber) → maps.find rows.name_number_cmp key (request_entries a) ≡
      maps.find rows.name_number_cmp key (request_entries b)) → a ≡ b
  one_book a b p q same =
      let all_a = recursion_from_All IsDecision a p.each in
      let all_b = recursion_from_All IsDecision b q.each in
      same_list a b (also_there a b p.apart all_a all_b same) (also_there b a q.apart all_b all_a
      (λ key. sym (same key)))

  -- and those whose tables are one are one
  pub one_table : (a b : List DecidedRequest) → IsBook a → IsBook b
      → maps.from_entries {R = rows.name_number_cmp} (request_entries a)
      ≡ maps.from_entries {R = rows.name_number_cmp} (request_entries b) → a ≡ b
  one_table a b p q same = one_book a b p q
      (λ key. sym (maps.get-from_entries name_number_total (request_entries a) key)
      ∙ ap (λ m. maps.get m key) same
      ∙ maps.get-from_entries name_number_total (request_entries b) key)
