-- A stream has one list of requests, up to a bad head where it ends within a head.
use Rattle.std.proofs.Common.{◌≡◌, ℕ, true, false, Bool, List, [], ◌∷◌, refl, sym, ap, subst, ◌∙◌}
use Rattle.std.proofs.Common.{inl, inr}
use Rattle.http_messages.specs.declared.audience.Audience.{Audience}
use Rattle.http_messages.specs.declared.request.HeadFault.{HeadFault}
use Rattle.http_messages.specs.Requests.{Ask, StopsShort}
use Rattle.http_messages.proofs.OneRequest.{asks_same, asks_refused, asks_ends, refused_same}
use Rattle.http_messages.proofs.OneRequest.{refused_ends}
use Rattle.http_stream.specs.Streams.{Item, Calls, Refuses, Follow, AreRequests, AlmostSame}

one_more : (item : Item) (a b : List Item) → AlmostSame a b → AlmostSame (item ∷ a) (item ∷ b)
one_more item a b (inl e) = inl (ap (λ (t : List Item). item ∷ t) e)
one_more item a b (inr (inl e)) = inr (inl (ap (λ (t : List Item). item ∷ t) e))
one_more item a b (inr (inr e)) = inr (inr (ap (λ (t : List Item). item ∷ t) e))

same_first : (x y : Item) (a b : List Item) → x ≡ y → AlmostSame (x ∷ a) (x ∷ b) →
    AlmostSame (x ∷ a) (y ∷ b)
same_first x y a b e s = subst (λ (t : Item). AlmostSame (x ∷ a) (t ∷ b)) e s

not_both : (last : Bool) → last ≡ true → last ≡ false → ⊥
not_both last t f = let e : true ≡ false = sym t ∙ f in cc

pub one_list : (audience : Audience) (bytes : List ℕ) (a b : List Item) → AreRequests audience bytes a → AreRequests audience bytes b →
    AlmostSame a b
one_list audience bytes [] [] f g = inl refl
one_list audience bytes [] (Refuses why ∷ items) f g =
    inr (inr (ap (λ (t : List Item). Refuses why ∷ t) g.1 ∙ ap (λ (w : HeadFault). Refuses w ∷
    []) (refused_ends audience bytes why g.0 f)))
one_list audience bytes [] (Calls ask ∷ items) f g = absurd (asks_ends audience bytes ask g.0 g.1 f)
one_list audience bytes (Refuses why ∷ items) [] f g =
    inr (inl (ap (λ (t : List Item). Refuses why ∷ t) f.1 ∙ ap (λ (w : HeadFault). Refuses w ∷
    []) (refused_ends audience bytes why f.0 g)))
one_list audience bytes (Refuses why ∷ items) (Refuses other ∷ others) f g =
    inl (ap (λ (t : List Item). Refuses why ∷ t) (f.1 ∙ sym g.1) ∙ ap (λ (w : HeadFault). Refuses w
    ∷ others) (refused_same audience bytes why other f.0 g.0))
one_list audience bytes (Refuses why ∷ items) (Calls ask ∷ others) f g =
    absurd (asks_refused audience bytes ask g.0 why g.1 f.0)
one_list audience bytes (Calls ask ∷ items) [] f g = absurd (asks_ends audience bytes ask f.0 f.1 g)
one_list audience bytes (Calls ask ∷ items) (Refuses why ∷ others) f g =
    absurd (asks_refused audience bytes ask f.0 why f.1 g.0)
one_list audience bytes (Calls ask ∷ items) (Calls other ∷ others) (rest, x, inl p) (left, y, inl q) =
    let u = (asks_same audience bytes ask other rest left x y).0 in
    inl (ap (λ (t : List Item). Calls ask ∷ t) (p.1 ∙ sym q.1) ∙ ap (λ (t : Ask). Calls t ∷ others)
    u)
one_list audience bytes (Calls ask ∷ items) (Calls other ∷ others) (rest, x, inl p) (left, y, inr q) =
    let u = (asks_same audience bytes ask other rest left x y).0 in
    absurd (not_both other.is_last (sym (ap (λ (t : Ask). t.is_last) u) ∙ p.0) q.0)
one_list audience bytes (Calls ask ∷ items) (Calls other ∷ others) (rest, x, inr p) (left, y, inl q) =
    let u = (asks_same audience bytes ask other rest left x y).0 in
    absurd (not_both other.is_last q.0 (sym (ap (λ (t : Ask). t.is_last) u) ∙ p.0))
one_list audience bytes (Calls ask ∷ items) (Calls other ∷ others) (rest, x, inr p) (left, y, inr q) =
    let u = asks_same audience bytes ask other rest left x y in
    same_first (Calls ask) (Calls other) items others (ap (λ (t : Ask). Calls t) u.0)
    (one_more (Calls ask) items others (one_list audience rest items others p.1
    (subst (λ (t : List ℕ). Follow audience (StopsShort audience) t others) (sym u.1) q.1)))
