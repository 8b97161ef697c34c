-- Maps and the lists of entries that they come from.
use Rattle.std.proofs.Common.{◌≡◌, Bool, true, false, cond, List, [], ◌∷◌, Some, Ordering, refl}
use Rattle.std.proofs.Common.{sym, ap, subst, ◌∙◌, T}
use Rattle.std.specs.Ordering.{eq_by_cmp}
use Rattle.std.specs.Cmp.{IsTotalOrder}
use Rattle.std.specs.FinMap.{FinMap, from_entries, from_sorted, entries, find, insert, get-insert}
use Rattle.std.specs.FinMap.{get-entries, get-from_entries, get-from_sorted, entries-from_sorted}
use Rattle.std.specs.FinMap.{same_map, is_sorted, IsAntisymmetric}

shadowed : {A : Type 0} (b : Bool) (x y z : A) → cond b x (cond b y z) ≡ cond b x z
shadowed true x y z = refl
shadowed false x y z = refl

module _ {K V : Type 0} {R : K → K → Ordering} (o : IsTotalOrder R) (exact : IsAntisymmetric R)
  where
    -- a map is made of its entries
    pub made_of : (m : FinMap R V) (es : List (K × V)) → entries m ≡ es → m ≡ from_entries es
    made_of m es e = same_map o exact _ _ (λ q. get-entries m q ∙ ap (find R q) e ∙ sym
        (get-from_entries o es q))

    -- entries whose keys rise are those of their map
    pub entries_of : (es : List (K × V)) → is_sorted R es ≡ true → entries (from_entries {R = R} es) ≡
        es
    entries_of es up =
        let rises : T (is_sorted R es) = subst T (sym up) tt in
        let same : from_entries {R = R} es ≡ from_sorted {R = R} es =
        same_map o exact _ _ (λ q. get-from_entries o es q ∙ sym (get-from_sorted R es q rises))
        in
        ap entries same ∙ entries-from_sorted R es rises

    -- what is put twice under a key is there as it was put last
    pub put_again : (k : K) (v w : V) → insert (from_entries {R = R} ((k, v) ∷ [])) k w ≡ from_entries
        ((k, w) ∷ [])
    put_again k v w = same_map o exact _ _ (λ q.
        get-insert o _ k w q ∙ ap (cond (eq_by_cmp R q k) (Some w)) (get-insert o _ k v q) ∙ shadowed
        (eq_by_cmp R q k) _ _ _ ∙ sym (get-insert o _ k w q))
