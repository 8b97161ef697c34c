-- Bytes begin with one request alone.
use Rattle.std.proofs.Common.{◌≡◌, ℕ, ◌≤◌, List, [], ◌∷◌, ◌++◌, length, take, drop, sym, ap, subst}
use Rattle.http_messages.specs.Requests.{longest_head}
use Rattle.std.proofs.Common.{◌∙◌, arith, append-nil, length-append, Some, inl, inr, refl}
use Rattle.std.proofs.lemmas.List.{take-append-drop, take-append-le, length-take}
use Rattle.httparse.specs.Grammar.{RequestHead, ReadsRequest, print_request}
use Rattle.httparse.proofs.GrammarLemmas.{request_unique}
use Rattle.http_messages.specs.declared.audience.Audience.{Audience}
use Rattle.http_messages.specs.declared.request.HeadFault.{HeadFault}
use Rattle.http_messages.specs.declared.request.HeadFault.TheVariants.{BadHead}
use Rattle.http_messages.specs.declared.request.Framing.TheVariants.{Faulty, Body}
use Rattle.http_messages.specs.Requests.{framing_of, method_of, HasHead, Ask, HasAsk, IsFaulty}
use Rattle.http_messages.specs.Requests.{IsBadHead, StopsShort, fields_of}
use Rattle.http_messages.specs.Fields.{is_close}
use Rattle.std.specs.List.{list_any}
use Rattle.std.proofs.Math.Seq.{take-append_seam}

split_same : (a b r q : List ℕ) → length a ≡ length b → a ++ r ≡ b ++ q → (a ≡ b) × (r ≡ q)
split_same [] [] r q l e = (refl, e)
split_same [] (y ∷ b) r q l e = absurd (omega arith)
split_same (x ∷ a) [] r q l e = absurd (omega arith)
split_same (x ∷ a) (y ∷ b) r q l e =
    let t : a ++ r ≡ b ++ q = cc in
    let h : x ≡ y = cc in
    let s = split_same a b r q (omega arith) t in (cc (h, s.0), s.1)

ask_same : (x y : Ask) → x.method ≡ y.method → x.target ≡ y.target → x.body ≡ y.body →
    x.is_last ≡ y.is_last → x ≡ y
ask_same x y a b c d = λ i. record { method = a i; target = b i; body = c i; is_last = d i }

heads_same : (input : List ℕ) (h k : RequestHead) (r q : List ℕ) → HasHead input h r →
    HasHead input k q → (h ≡ k) × (r ≡ q)
heads_same input h k r q x y = request_unique input h k r q x.reads y.reads

pub asks_same : (audience : Audience) (input : List ℕ) (x y : Ask) (r q : List ℕ) → HasAsk audience input x r → HasAsk audience input y q →
    (x ≡ y) × (r ≡ q)
asks_same audience input x y r q a b =
    let u = heads_same input a.head b.head a.tail b.tail a.reads b.reads in
    let f : Body (length x.body) ≡ Body (length y.body) = sym a.framing ∙ ap (framing_of audience) u.0 ∙
    b.framing in
    let l : length x.body ≡ length y.body = cc in
    let s = split_same x.body y.body r q l (sym a.tail_is ∙ u.1 ∙ b.tail_is) in
    let m : Some x.method ≡ Some y.method =
    sym a.method ∙ ap (λ (h : RequestHead). method_of h.method) u.0 ∙ b.method in
    let n : x.method ≡ y.method = cc in (
      ask_same x y n (a.target ∙ ap (λ (h : RequestHead). h.target) u.0 ∙ sym b.target) s.0
          (a.last ∙ ap (λ (h : RequestHead). list_any is_close (fields_of h)) u.0 ∙ sym b.last),
      s.1,
    )

no_bad : (input : List ℕ) (h : RequestHead) (t : List ℕ) → HasHead input h t → IsBadHead input → ⊥
no_bad input h t x (inl o) =
    let all : ReadsRequest (input ++ []) h t = subst (λ (xs : List ℕ). ReadsRequest xs h t)
    (sym (append-nil input)) x.reads in
    absurd (omega (arith, o [] h t all, x.few))
no_bad input h t x (inr (len, none)) =
    let front = take longest_head input in
    let n = length (print_request h) in
    let fits : n ≤ length front = omega (arith, length-take longest_head input, x.short) in
    let is : take n front ≡ print_request h = sym (take-append-le n front (drop longest_head input)
    fits) ∙
    ap (take n) (take-append-drop longest_head input ∙ x.reads.1) ∙ take-append_seam (print_request
    h) t
    in
    none h (drop n front) (
      x.reads.0,
      sym (take-append-drop n front) ∙ ap (λ (xs : List ℕ). xs ++
          drop n front) is,
    )

not_both : (n : ℕ) (why : HeadFault) → Body n ≡ Faulty why → ⊥
not_both n why e = cc

pub asks_refused : (audience : Audience) (input : List ℕ) (ask : Ask) (r : List ℕ) (why : HeadFault) →
    HasAsk audience input ask r → IsFaulty audience input why → ⊥
asks_refused audience input ask r why a (inl x) = no_bad input a.head a.tail a.reads x.1
asks_refused audience input ask r why a (inr x) =
    let u = heads_same input a.head x.0 a.tail x.1 a.reads x.2 in
    not_both (length ask.body) why (sym a.framing ∙ ap (framing_of audience) u.0 ∙ x.3)

pub asks_ends : (audience : Audience) (input : List ℕ) (ask : Ask) (r : List ℕ) → HasAsk audience input ask r → StopsShort audience input →
    ⊥
asks_ends audience input ask r a (inl e) = e.none a.head a.tail a.reads.reads
asks_ends audience input ask r a (inr e) =
    let u = heads_same input a.head e.head a.tail e.tail a.reads e.reads in
    let f : Body (length ask.body) ≡ Body e.count = sym a.framing ∙ ap (framing_of audience) u.0 ∙ e.framing in
    let l : length ask.body ≡ e.count = cc in
    absurd (omega (arith, l, e.short, ap length a.tail_is, ap length u.1, length-append ask.body r))

pub refused_same : (audience : Audience) (input : List ℕ) (why other : HeadFault) → IsFaulty audience input why →
    IsFaulty audience input other → why ≡ other
refused_same audience input why other (inl x) (inl y) = x.0 ∙ sym y.0
refused_same audience input why other (inl x) (inr y) = absurd (no_bad input y.0 y.1 y.2 x.1)
refused_same audience input why other (inr x) (inl y) = absurd (no_bad input x.0 x.1 x.2 y.1)
refused_same audience input why other (inr x) (inr y) =
    let u = heads_same input x.0 y.0 x.1 y.1 x.2 y.2 in
    let f : Faulty why ≡ Faulty other = sym x.3 ∙ ap (framing_of audience) u.0 ∙ y.3 in cc

pub refused_ends : (audience : Audience) (input : List ℕ) (why : HeadFault) → IsFaulty audience input why → StopsShort audience input →
    why ≡ BadHead
refused_ends audience input why (inl x) e = x.0
refused_ends audience input why (inr x) (inl e) = absurd (e.none x.0 x.1 x.2.reads)
refused_ends audience input why (inr x) (inr e) =
    let u = heads_same input x.0 e.head x.1 e.tail x.2 e.reads in
    absurd (not_both e.count why (sym e.framing ∙ ap (framing_of audience) (sym u.0) ∙ x.3))
