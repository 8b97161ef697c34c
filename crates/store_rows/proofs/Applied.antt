-- What changes of rows make of the contents.
use Rattle.std.proofs.Common.{◌≡◌, inl, inr, ℤ, int_lt, Bool, true, false, not, cond, List, [], ◌∷◌, ◌++◌, map}
use Rattle.std.proofs.Common.{filter, Option, Some, None, Ordering, Equal, refl, sym, ap, ◌∙◌}
use Rattle.std.specs.Ordering.{is_lt, eq_by_cmp}
use Rattle.std.specs.Cmp.{IsTotalOrder}
use Rattle.std.specs.FinMap.{FinMap, find, get, insert, remove, from_entries, get-insert}
use Rattle.std.specs.FinMap.{get-remove, get-from_entries, same_map, is_sorted, IsAntisymmetric}
use Rattle.std.specs.FinMap.Entries.{below_all}
use Rattle.std.proofs.lemmas.Bool.{cases_Bool, and_parts}
use Rattle.std.proofs.lemmas.Cmp.{tied_itself}
use Rattle.store_model.specs.Contents.{Contents, device_key, ring_of, device_of, part_of}
use Rattle.store_model.specs.Contents.{published_of}
use Rattle.store_model.specs.Changes.{with_change, changed_all}
use Rattle.store_model.specs.declared.change.RowChange.{RowChange}
use Rattle.store_model.specs.declared.change.RowChange.TheVariants.{DropDevice, PutRing}
use Rattle.store_model.specs.declared.change.RowChange.TheVariants.{AddDevice, PutPart, AddPart}
use Rattle.store_model.specs.declared.change.RowChange.TheVariants.{PutPublished}
use Rattle.store_model.specs.declared.rows.DeviceKey.{DeviceKey}
use Rattle.store_model.specs.declared.rows.DeviceRow.{DeviceRow}
use Rattle.store_model.specs.declared.rows.RingRow.{RingRow}
use Rattle.store_model.specs.declared.rows.PartRow.{PartRow}
use Rattle.store_model.specs.declared.rows.PublishedRow.{PublishedRow}
use Rattle.store_model.proofs.Keys.{tied}
use Rattle.store_rows.specs.Differences.{has_same, new_entries}
use Rattle.store_rows.specs.Inner.Lacking.{lacking}
use Rattle.store_rows.specs.Inner.Written.{part_change}
use Rattle.store_rows.proofs.Maps.{entries_of}

-- ---- many changes of one kind

abbrev pub put_all : {K V : Type 0} {R : K → K → Ordering} → FinMap R V → List (K × V) → FinMap R V
put_all m [] = m
put_all m (e ∷ es) = put_all (insert m e.0 e.1) es

abbrev pub remove_all : {K V : Type 0} {R : K → K → Ordering} → FinMap R V → List K → FinMap R V
remove_all m [] = m
remove_all m (k ∷ ks) = remove_all (remove m k) ks

pub changed-append : (xs ys : List RowChange) (c : Contents) →
    changed_all c (xs ++ ys) ≡ changed_all (changed_all c xs) ys
changed-append [] ys c = refl
changed-append (x ∷ xs) ys c = changed-append xs ys (with_change c x)

pub drops_are : (c : Contents) (keys : List DeviceKey) → changed_all c (map DropDevice keys) ≡
    record c { devices = remove_all c.devices (map device_key keys) }
drops_are c [] = refl
drops_are c (k ∷ ks) = drops_are (record c { devices = remove c.devices (device_key k) }) ks

pub rings_are : (c : Contents) (rs : List RingRow) → changed_all c (map PutRing rs) ≡ record c
    { rings = put_all c.rings (map ring_of rs) }
rings_are c [] = refl
rings_are c (r ∷ rs) = rings_are (record c { rings = insert c.rings (ring_of r).0 (ring_of r).1 })
    rs

pub devices_are : (c : Contents) (rs : List DeviceRow) → changed_all c (map AddDevice rs) ≡ record c
    { devices = put_all c.devices (map device_of rs) }
devices_are c [] = refl
devices_are c (r ∷ rs) = devices_are (record c {
  devices = insert c.devices (device_of r).0
      (device_of r).1;
}) rs

-- it is the same whether a partition is put or added
part_is : (c : Contents) (r : PartRow) (old : Bool) → with_change c
    (cond old (PutPart r) (AddPart r)) ≡ record c
    { parts = insert c.parts (part_of r).0 (part_of r).1 }
part_is c r true = refl
part_is c r false = refl

pub parts_are : (known : ℤ) (c : Contents) (rs : List PartRow) →
    changed_all c (map (part_change known) rs) ≡ record c
    { parts = put_all c.parts (map part_of rs) }
parts_are known c [] = refl
parts_are known c (r ∷ rs) = ap (λ d. changed_all d (map (part_change known) rs)) (part_is c r
    (int_lt r.part known)) ∙ parts_are known (record c {
      parts = insert c.parts (part_of r).0 (part_of r).1;
    }) rs

pub texts_are : (c : Contents) (rs : List PublishedRow) → changed_all c (map PutPublished rs) ≡
    record c { published = put_all c.published (map published_of rs) }
texts_are c [] = refl
texts_are c (r ∷ rs) = texts_are (record c {
  published = insert c.published (published_of r).0
      (published_of r).1;
}) rs

-- ---- the differences make the new map of the old

less_tie : {K : Type 0} {R : K → K → Ordering} → IsTotalOrder R → IsAntisymmetric R → (q k x : K) →
    eq_by_cmp R q k ≡ true → is_lt (R k x) ≡ true → eq_by_cmp R q x ≡ false
less_tie {R = R} o exact q k x tie less = elim (cases_Bool (eq_by_cmp R q x)) [
  | inl also ↦
      let same : k ≡ x = sym (exact q k (tied _ tie)) ∙ exact q x (tied _ also) in
      let even : R k x ≡ Equal = ap (R k) (sym same) ∙ tied_itself o k in
      absurd (let h : true ≡ false = sym less ∙ ap is_lt even in cc)
  | inr other ↦ other
]

module _ {K V : Type 0} {R : K → K → Ordering} (o : IsTotalOrder R) (exact : IsAntisymmetric R)
  where
    -- what a map has where picked entries were put
    abbrev Put : (K × V → Bool) → K → Option V → Option V → Option V
    Put test q None base = base
    Put test q (Some v) base = cond (test (q, v)) (Some v) base

    -- what a map has where the keys of picked entries were taken out
    abbrev Out : (K × V → Bool) → K → Option V → Option V → Option V
    Out test q None base = base
    Out test q (Some v) base = cond (test (q, v)) None base

    none_behind : (q k : K) (es : List (K × V)) → eq_by_cmp R q k ≡ true → below_all R k es ≡ true →
        find R q es ≡ None
    none_behind q k [] tie below = refl
    none_behind q k (e ∷ es) tie below =
        let parts = and_parts _ _ below in
        ap (λ t. cond t (Some e.1) (find R q es)) (less_tie o exact q k e.0 tie parts.0) ∙ none_behind
        q k es tie parts.1

    put_picked : (test : K × V → Bool) (m : FinMap R V) (es : List (K × V)) → is_sorted R es ≡ true →
        (q : K)
        → get (put_all m (filter test es)) q ≡ Put test q (find R q es) (get m q)
    put_picked test m [] up q = refl
    put_picked test m (e ∷ es) up q =
        let parts = and_parts _ _ up in
        elim (cases_Bool (test e)) [
          | inl picked ↦
              ap (λ b. get (put_all m (cond b (e ∷ filter test es) (filter test es))) q) picked
              ∙ put_picked test (insert m e.0 e.1) es parts.1 q
              ∙ elim (cases_Bool (eq_by_cmp R q e.0)) [
                | inl here ↦
                    ap (λ f. Put test q f (get (insert m e.0 e.1) q)) (none_behind q e.0 es here
                    parts.0)
                    ∙ get-insert o m e.0 e.1 q ∙ ap (λ b. cond b (Some e.1) (get m q)) here
                    ∙ sym (ap (λ b. Put test q (cond b (Some e.1) (find R q es)) (get m q)) here ∙ ap
                    (λ k. cond (test (k, e.1)) (Some e.1) (get m q)) (exact q e.0 (tied _ here)) ∙
                    ap (λ b. cond b (Some e.1) (get m q)) picked)
                | inr other ↦
                    ap (Put test q (find R q es)) (get-insert o m e.0 e.1 q ∙ ap
                    (λ b. cond b (Some e.1) (get m q)) other)
                    ∙ sym (ap (λ b. Put test q (cond b (Some e.1) (find R q es)) (get m q)) other)
              ]
          | inr passed ↦
              ap (λ b. get (put_all m (cond b (e ∷ filter test es) (filter test es))) q) passed
              ∙ put_picked test m es parts.1 q
              ∙ elim (cases_Bool (eq_by_cmp R q e.0)) [
                | inl here ↦
                    ap (λ f. Put test q f (get m q)) (none_behind q e.0 es here parts.0)
                    ∙ sym (ap (λ b. Put test q (cond b (Some e.1) (find R q es)) (get m q)) here ∙ ap
                    (λ k. cond (test (k, e.1)) (Some e.1) (get m q)) (exact q e.0 (tied _ here)) ∙
                    ap (λ b. cond b (Some e.1) (get m q)) passed)
                | inr other ↦ sym (ap (λ b. Put test q (cond b (Some e.1) (find R q es)) (get m q))
                    other)
              ]
        ]

    take_out : (test : K × V → Bool) (m : FinMap R V) (es : List (K × V)) → is_sorted R es ≡ true →
        (q : K)
        → get (remove_all m (map (λ (e : K × V). e.0) (filter test es))) q ≡ Out test q (find R q es)
        (get m q)
    take_out test m [] up q = refl
    take_out test m (e ∷ es) up q =
        let parts = and_parts _ _ up in
        elim (cases_Bool (test e)) [
          | inl picked ↦
              ap (λ b. get (remove_all m (map (λ (x : K × V). x.0) (cond b (e ∷ filter test es)
              (filter test es)))) q) picked
              ∙ take_out test (remove m e.0) es parts.1 q
              ∙ elim (cases_Bool (eq_by_cmp R q e.0)) [
                | inl here ↦
                    ap (λ f. Out test q f (get (remove m e.0) q)) (none_behind q e.0 es here parts.0)
                    ∙ get-remove o m e.0 q ∙ ap (λ b. cond b None (get m q)) here
                    ∙ sym (ap (λ b. Out test q (cond b (Some e.1) (find R q es)) (get m q)) here ∙ ap
                    (λ k. cond (test (k, e.1)) None (get m q)) (exact q e.0 (tied _ here)) ∙ ap
                    (λ b. cond b None (get m q)) picked)
                | inr other ↦
                    ap (Out test q (find R q es)) (get-remove o m e.0 q ∙ ap
                    (λ b. cond b None (get m q)) other)
                    ∙ sym (ap (λ b. Out test q (cond b (Some e.1) (find R q es)) (get m q)) other)
              ]
          | inr passed ↦
              ap (λ b. get (remove_all m (map (λ (x : K × V). x.0) (cond b (e ∷ filter test es)
              (filter test es)))) q) passed
              ∙ take_out test m es parts.1 q
              ∙ elim (cases_Bool (eq_by_cmp R q e.0)) [
                | inl here ↦
                    ap (λ f. Out test q f (get m q)) (none_behind q e.0 es here parts.0)
                    ∙ sym (ap (λ b. Out test q (cond b (Some e.1) (find R q es)) (get m q)) here ∙ ap
                    (λ k. cond (test (k, e.1)) None (get m q)) (exact q e.0 (tied _ here)) ∙ ap
                    (λ b. cond b None (get m q)) passed)
                | inr other ↦ sym (ap (λ b. Out test q (cond b (Some e.1) (find R q es)) (get m q))
                    other)
              ]
        ]

    module _ (same : V → V → Bool) (one : (v w : V) → same v w ≡ true → v ≡ w) (itself : (v : V) →
        same v v ≡ true) where
      -- what is put where the old value is not the same
      settled : (was is : Option V) → (is ≡ None → was ≡ None) → (q : K) →
          Put (λ (e : K × V). not (has_same same was e.1)) q is was ≡ is
      settled was None kept q = kept refl
      settled None (Some v) kept q = refl
      settled (Some w) (Some v) kept q = elim (cases_Bool (same w v)) [
        | inl picked ↦ ap (λ b. cond (not b) (Some v) (Some w)) picked ∙ ap Some (one w v picked)
        | inr passed ↦ ap (λ b. cond (not b) (Some v) (Some w)) passed
      ]

      at_key : (q : K) (old : List (K × V)) (is base : Option V) →
          Put (λ (e : K × V). not (has_same same (find R e.0 old) e.1)) q is base ≡ Put
          (λ (e : K × V). not (has_same same (find R q old) e.1)) q is base
      at_key q old None base = refl
      at_key q old (Some v) base = refl

      -- the entries that the old list lacks make the new map of the old, where no key went
      pub differences_make : (old new : List (K × V)) → is_sorted R new ≡ true →
          ((q : K) → find R q new ≡ None → find R q old ≡ None)
          → put_all (from_entries {R = R} old) (lacking R same old new) ≡ from_entries new
      differences_make old new up kept = same_map o exact _ _ (λ q.
          put_picked (λ (e : K × V). not (has_same same (find R e.0 old) e.1)) (from_entries old) new
          up q
          ∙ ap (Put (λ (e : K × V). not (has_same same (find R e.0 old) e.1)) q (find R q new))
          (get-from_entries o old q)
          ∙ at_key q old (find R q new) (find R q old) ∙ settled (find R q old) (find R q new)
          (kept q) q ∙ sym (get-from_entries o new q))

      -- the same where the old entries that are not in the new list are taken out first
      left : (was is : Option V) (q : K) → Put (λ (e : K × V). not (has_same same was e.1)) q is
          (Out (λ (e : K × V). not (has_same same is e.1)) q was was) ≡ is
      left None None q = refl
      left None (Some v) q = refl
      left (Some w) None q = refl
      left (Some w) (Some v) q = elim (cases_Bool (same w v)) [
        | inl picked ↦
            let equal = one w v picked in
            ap (λ b. cond (not b) (Some v) (cond (not (same v w)) None (Some w))) picked
            ∙ ap (λ b. cond (not b) None (Some w)) (ap (λ x. same x w) (sym equal) ∙ itself w) ∙ ap
            Some equal
        | inr passed ↦ ap (λ b. cond (not b) (Some v) (cond (not (same v w)) None (Some w))) passed
      ]

      out_at : (q : K) (new : List (K × V)) (was base : Option V) →
          Out (λ (e : K × V). not (has_same same (find R e.0 new) e.1)) q was base ≡ Out
          (λ (e : K × V). not (has_same same (find R q new) e.1)) q was base
      out_at q new None base = refl
      out_at q new (Some v) base = refl

      pub exchanges_make : (old new : List (K × V)) → is_sorted R old ≡ true → is_sorted R new ≡ true
          → put_all (remove_all (from_entries {R = R} old) (map (λ (e : K × V). e.0)
          (lacking R same new old))) (lacking R same old new) ≡ from_entries new
      exchanges_make old new up_old up_new = same_map o exact _ _ (λ q.
          put_picked (λ (e : K × V). not (has_same same (find R e.0 old) e.1)) _ new up_new q
          ∙ ap (Put (λ (e : K × V). not (has_same same (find R e.0 old) e.1)) q (find R q new))
          (take_out (λ (e : K × V). not (has_same same (find R e.0 new) e.1)) (from_entries old) old
          up_old q
          ∙ ap (Out (λ (e : K × V). not (has_same same (find R e.0 new) e.1)) q (find R q old))
          (get-from_entries o old q) ∙ out_at q new (find R q old) (find R q old))
          ∙ at_key q old (find R q new) _ ∙ left (find R q old) (find R q new) q ∙ sym
          (get-from_entries o new q))

      all_alike : {X : Type 0} (p q : X → Bool) → ((x : X) → p x ≡ q x) → (xs : List X) →
          filter p xs ≡ filter q xs
      all_alike p q same [] = refl
      all_alike p q same (x ∷ xs) = ap (λ t. cond t (x ∷ filter p xs) (filter p xs)) (same x) ∙ ap
          (λ ys. cond (q x) (x ∷ ys) ys) (all_alike p q same xs)

      pub new_are : (old new : List (K × V)) → is_sorted R new ≡ true →
          new_entries same (from_entries {R = R} old) (from_entries new) ≡ lacking R same old new
      new_are old new up =
          ap (filter (λ (e : K × V). not (has_same same (get (from_entries {R = R} old) e.0) e.1)))
          (entries_of o exact new up)
          ∙ all_alike _ _ (λ e. ap (λ f. not (has_same same f e.1)) (get-from_entries o old e.0)) new
