-- Rows that are added one after another.
use Rattle.std.proofs.Common.{◌≡◌, ◌⊎◌, inl, inr, ℕ, zero, suc, ◌+◌, ◌<◌, ◌≤◌, ◌==◌, ◌&&◌, pos}
use Rattle.std.proofs.Common.{Bool, true, false, not, cond, List, [], ◌∷◌, ◌++◌, map, filter}
use Rattle.std.proofs.Common.{length, take, get_or, Option, Some, None, Ordering, refl, sym, ap}
use Rattle.std.proofs.Common.{IsTrue, ◌↔◌, subst, ◌∙◌, arith, append_assoc, append-nil, nat_eq}
use Rattle.std.proofs.Common as std
use Rattle.std.specs.List.{AllZip, flat_map, enumerate_from, slice_get}
use Rattle.std.specs.Option.{option_map}
use Rattle.std.specs.Ordering.{eq_by_cmp, is_eq}
use Rattle.std.specs.FinMap.{find}
use Rattle.std.specs.Cmp.Lexicographic.{pointwise}
use Rattle.std.specs.Rc.{rc_str_bytes}
use Rattle.std.specs.declared.rc.RcStr.{RcStr}
use Rattle.ring_model.specs.Parts.{texts_of}
use Rattle.std.proofs.lemmas.Map.Text.{is_eq-slice_cmp}
use Rattle.std.proofs.lemmas.Slice.Eq.{bytes_eq-Decides}
use Rattle.std.proofs.lemmas.Bool.{cases_Bool}
use Rattle.std.proofs.lemmas.Bool.Decides.{same_from_decides, Decides-eqb}
use Rattle.std.proofs.lemmas.Cmp.{tied_itself}
use Rattle.std.proofs.lemmas.List.{take_more}
use Rattle.std.proofs.lemmas.List.FromFn.{length-enumerate_from, get_or-enumerate_from}
use Rattle.std.proofs.lemmas.List.Elements.{filter-append, AllZip-push}
use Rattle.ring_model.specs.Ring.{RingRecord}
use Rattle.ring_words.specs.declared.device.Device.{Device}
use Rattle.store_model.specs.Entries as rows
use Rattle.store_model.specs.Entries.{NameNumber, name_cmp, name_number_cmp}
use Rattle.store_model.proofs.Keys.{name_number_exact, name_number_total, tied}
use Rattle.std.specs.declared.rc.Rc.{Rc}
use Rattle.std.specs.declared.alloc.Global.{Global}
use Rattle.ring_model.specs.declared.ring.Ring.{Ring}
use Rattle.ring_model.specs.Rings.{ring_at, seen}
use Rattle.store_rows.specs.RingRows.{NamedRings, ring_entry, ring_entries, device_entry}
use Rattle.store_rows.specs.RingRows.{part_entry, part_entries_of, published_entry}
use Rattle.store_rows.specs.Differences.{has_same}
use Rattle.store_rows.specs.Inner.Lacking.{lacking, rows_at, ring_value, device_in}
use Rattle.store_rows.specs.Inner.Lacking.{device_value, part_in, part_value, text_in}
use Rattle.store_rows.specs.Inner.Lacking.{text_entries_of}

-- a list that grows by what each element adds
pub step_more : {X E : Type 0} (f : List X → List E) (g : X → List E) → ((xs : List X) (x : X) →
    f (xs ++ x ∷ []) ≡ f xs ++ g x)
    → (xs : List X) (i : ℕ) (x : X) → i < length xs → x ≡ get_or xs i x →
    (before into after : List E) → into ≡ before ++ f (take i xs) → after ≡ into ++ g x →
    after ≡ before ++ f (take (i + 1) xs)
step_more f g hom xs i x lt is before into after so_far more =
    let taken : take (i + 1) xs ≡ take i xs ++ x ∷ [] = take_more xs i x lt ∙ ap (λ y. take i xs ++
    y ∷ []) (sym is) in
    more ∙ ap (λ ys. ys ++ g x) so_far ∙ append_assoc before (f (take i xs)) (g x) ∙ ap
    (λ ys. before ++ ys) (sym (hom (take i xs) x)) ∙ ap (λ ys. before ++ f ys) (sym taken)

pub map_append : {X Y : Type 0} (f : X → Y) (xs ys : List X) → map f (xs ++ ys) ≡ map f xs ++
    map f ys
map_append f [] ys = refl
map_append f (x ∷ xs) ys = ap (λ zs. f x ∷ zs) (map_append f xs ys)

pub flat_append : {X Y : Type 0} (f : X → List Y) (xs : List X) (x : X) →
    flat_map f (xs ++ x ∷ []) ≡ flat_map f xs ++ f x
flat_append f [] x = append-nil (f x)
flat_append f (y ∷ xs) x = ap (λ zs. f y ++ zs) (flat_append f xs x) ∙ sym
    (append_assoc (f y) (flat_map f xs) (f x))

module _ {K V : Type 0} (R : K → K → Ordering) (same : V → V → Bool) (old : List (K × V)) where
  pub entries_more : {X : Type 0} (entry : X → K × V) (xs : List X) (x : X) →
      lacking R same old (map entry (xs ++ x ∷ [])) ≡ lacking R same old (map entry xs) ++
      lacking R same old (entry x ∷ [])
  entries_more entry xs x = ap (lacking R same old) (map_append entry xs (x ∷ [])) ∙ filter-append _
      (map entry xs) (entry x ∷ [])

  pub lacking_none : (e : K × V) (xs : List (K × V)) (o : Option V) → find R e.0 old ≡ o →
      true ≡ has_same same o e.1 → xs ≡ xs ++ lacking R same old (e ∷ [])
  lacking_none e xs o is has =
      let t : true ≡ has_same same (find R e.0 old) e.1 = has ∙ ap (λ p. has_same same p e.1)
      (sym is) in
      sym (ap (λ b. xs ++ cond (not b) (e ∷ []) []) (sym t) ∙ append-nil xs)

  pub lacking_one : (e : K × V) (xs : List (K × V)) (o : Option V) → find R e.0 old ≡ o →
      false ≡ has_same same o e.1 → xs ++ e ∷ [] ≡ xs ++ lacking R same old (e ∷ [])
  lacking_one e xs o is has =
      let t : false ≡ has_same same (find R e.0 old) e.1 = has ∙ ap (λ p. has_same same p e.1)
      (sym is) in
      ap (λ b. xs ++ cond (not b) (e ∷ []) []) t

  pub pushed_one : {Row : Type 0} (of : Row → K × V) (before after : List Row) (row : Row) (e : K ×
      V) (o : Option V) → after ≡ before ++ row ∷ [] → of row ≡ e
      → find R e.0 old ≡ o → false ≡ has_same same o e.1 → map of after ≡ map of before ++
      lacking R same old (e ∷ [])
  pushed_one of before after row e o pushed is found has =
      ap (map of) pushed ∙ map_append of before (row ∷ []) ∙ ap (λ x. map of before ++ x ∷ []) is ∙
      lacking_one e (map of before) o found has

-- ---- what the rows of one ring have at a key

same_number : (name : List ℕ) (m n : ℕ) → eq_by_cmp name_number_cmp (name, pos m) (name, pos n) ≡
    (n == m)
same_number name m n = same_from_decides {P = n ≡ m} _ _ (
  λ t. let e : pos m ≡ pos n = ap (λ (k : NameNumber). k.1) (name_number_exact (name, pos m) (
    name,
    pos n,
  ) (tied _ t)) in cc,
  λ e. ap (λ k. eq_by_cmp name_number_cmp (name, pos m) (name, pos k)) e ∙ ap is_eq
      (tied_itself name_number_total (name, pos m)),
) (Decides-eqb n m)

pub find_device : (name : List ℕ) (id : ℕ) (devices : List Device) → find name_number_cmp (
  name,
  pos id,
) (map (device_entry name) devices) ≡ device_in id devices
find_device name id [] = refl
find_device name id (d ∷ ds) =
    ap (λ t. cond t (Some (device_value d)) (find name_number_cmp (name, pos id)
    (map (device_entry name) ds))) (same_number name id d.id)
    ∙ ap (cond (d.id == id) (Some (device_value d))) (find_device name id ds) ∙ pushed (d.id == id)
  where
    pushed : (b : Bool) → cond b (Some (device_value d)) (device_in id ds) ≡ option_map device_value
        (cond b (Some d) (std.find (λ (x : Device). x.id == id) ds))
    pushed true = refl
    pushed false = refl

find_part_from : (name : List ℕ) (ring : RingRecord) (n p : ℕ) (moved : List (Option ℕ))
    → find name_number_cmp (name, pos (n + p)) (map (part_entry name ring.replicas ring.seats)
    (enumerate_from n moved)) ≡ option_map (part_value ring (n + p)) (slice_get moved p)
find_part_from name ring n p [] = refl
find_part_from name ring n zero (h ∷ hs) =
    let place : n + 0 ≡ n = omega arith in
    let here : eq_by_cmp name_number_cmp (name, pos (n + 0)) (name, pos n) ≡ true =
    same_number name (n + 0) n ∙ (Decides-eqb n (n + 0)).1 (sym place) in
    ap (λ t. cond t (Some (part_value ring n h)) (find name_number_cmp (name, pos (n + 0))
    (map (part_entry name ring.replicas ring.seats) (enumerate_from (n + 1) hs)))) here
    ∙ ap (λ k. Some (part_value ring k h)) (sym place)
find_part_from name ring n (suc p) (h ∷ hs) =
    let place : n + suc p ≡ (n + 1) + p = omega arith in
    let other : eq_by_cmp name_number_cmp (name, pos (n + suc p)) (name, pos n) ≡ false =
    same_number name (n + suc p) n ∙ apart in
    ap (λ t. cond t (Some (part_value ring n h)) (find name_number_cmp (name, pos (n + suc p))
    (map (part_entry name ring.replicas ring.seats) (enumerate_from (n + 1) hs)))) other
    ∙ ap (λ k. find name_number_cmp (name, pos k) (map (part_entry name ring.replicas ring.seats)
    (enumerate_from (n + 1) hs))) place
    ∙ find_part_from name ring (n + 1) p hs ∙ ap (λ k. option_map (part_value ring k)
    (slice_get hs p)) (sym place)
  where
    apart : (n == (n + suc p)) ≡ false
    apart = elim (cases_Bool (n == (n + suc p))) [
      | inl t ↦ absurd (let e : n ≡ n + suc p =
          (Decides-eqb n (n + suc p)).0 t in omega arith)
      | inr f ↦ f
    ]

pub find_part : (name : List ℕ) (old : Option RingRecord) (p : ℕ) → find name_number_cmp (
  name,
  pos p,
) (rows_at part_entries_of name old) ≡ part_in old p
find_part name None p = refl
find_part name (Some ring) p =
    let place : 0 + p ≡ p = omega arith in
    ap (λ k. find name_number_cmp (name, pos k) (map (part_entry name ring.replicas ring.seats)
    (enumerate_from 0 ring.moved))) (sym place)
    ∙ find_part_from name ring 0 p ring.moved ∙ ap (λ k. option_map (part_value ring k)
    (slice_get ring.moved p)) place

find_text_of : (name : List ℕ) (version : ℕ) (texts : List (ℕ × List ℕ)) →
    find name_number_cmp (name, pos version) (map (published_entry name) texts) ≡ option_map
    (λ (e : ℕ × List ℕ). e.1) (std.find (λ (e : ℕ × List ℕ). e.0 == version) texts)
find_text_of name version [] = refl
find_text_of name version (t ∷ ts) =
    ap (λ b. cond b (Some t.1) (find name_number_cmp (name, pos version) (map (published_entry name)
    ts))) (same_number name version t.0)
    ∙ ap (cond (t.0 == version) (Some t.1)) (find_text_of name version ts) ∙ pushed (t.0 == version)
  where
    pushed : (b : Bool) → cond b (Some t.1) (option_map (λ (e : ℕ × List ℕ). e.1)
        (std.find (λ (e : ℕ × List ℕ). e.0 == version) ts)) ≡ option_map (λ (e : ℕ × List ℕ). e.1)
        (cond b (Some t) (std.find (λ (e : ℕ × List ℕ). e.0 == version) ts))
    pushed true = refl
    pushed false = refl

pub find_text : (name : List ℕ) (old : Option RingRecord) (version : ℕ) →
    find name_number_cmp (name, pos version) (rows_at text_entries_of name old) ≡ text_in old
    version
find_text name None version = refl
find_text name (Some ring) version = find_text_of name version ring.published

pub positive : (n : ℕ) → (n == 0) ≡ false → 0 < n
positive zero h = let t : (0 == 0) ≡ true = refl in absurd (let e : true ≡ false = sym t ∙ h in cc)
positive (suc n) h = omega arith

-- ---- what stands at a name

pub same_name : (n m : List ℕ) → eq_by_cmp name_cmp n m ≡ pointwise nat_eq m n
same_name n m = is_eq-slice_cmp n m ∙ same_from_decides _ _ (bytes_eq-Decides n m)
    ((λ t. sym ((bytes_eq-Decides m n).0 t)), (λ e. (bytes_eq-Decides m n).1 (sym e)))

pub find_ring : (name : List ℕ) (rings : NamedRings) → find name_cmp name (ring_entries rings) ≡
    option_map ring_value (ring_at name rings)
find_ring name [] = refl
find_ring name (e ∷ es) =
    ap (λ t. cond t (Some (ring_value e.1)) (find name_cmp name (ring_entries es)))
    (same_name name e.0)
    ∙ ap (cond (pointwise nat_eq e.0 name) (Some (ring_value e.1))) (find_ring name es) ∙ pushed
    (pointwise nat_eq e.0 name)
  where
    pushed : (b : Bool) → cond b (Some (ring_value e.1)) (option_map ring_value (ring_at name es)) ≡
        option_map ring_value (option_map (λ (x : List ℕ × RingRecord). x.1)
        (cond b (Some e) (std.find (λ (x : List ℕ × RingRecord). pointwise nat_eq x.0 name) es)))
    pushed true = refl
    pushed false = refl

pub ring_step : (xs : List (List ℕ × Rc Ring Global)) (i : ℕ) (x : List ℕ × Rc Ring Global) →
    i < length xs → x ≡ get_or xs i x → (into after : List (List ℕ × rows.Ring))
    → into ≡ ring_entries (seen (take i xs)) → after ≡ into ++ ring_entry (x.0, x.1.value) ∷ []
    → after ≡ ring_entries (seen (take (i + 1) xs))
ring_step xs i x lt is into after so_far more =
    step_more {X = List ℕ × Rc Ring Global} (λ ys. ring_entries (seen ys)) (λ y. ring_entry
    (y.0, y.1.value) ∷ [])
    (λ ys y. ap ring_entries (map_append (λ (z : List ℕ × Rc Ring Global). (z.0, z.1.value))
    ys (y ∷ [])) ∙ map_append ring_entry (seen ys) ((y.0, y.1.value) ∷ []))
    xs i x lt is [] into after so_far more

pub others_are : (name : List ℕ) (o : Option RingRecord) →
    map (device_entry name) (rows_at (λ (e : List ℕ × RingRecord). e.1.devices) [] o) ≡ rows_at
    (λ (e : List ℕ × RingRecord). map (device_entry e.0) e.1.devices) name o
others_are name None = refl
others_are name (Some ring) = refl

pub texts_are : (name : List ℕ) (ts : List (ℕ × RcStr Global)) →
    map (λ (t : ℕ × RcStr Global). published_entry name (t.0, rc_str_bytes t.1)) ts ≡ map
    (published_entry name) (texts_of ts)
texts_are name [] = refl
texts_are name (t ∷ ts) = ap (λ es. published_entry name (t.0, rc_str_bytes t.1) ∷
    es) (texts_are name ts)

pub any_default : {X : Type 0} (xs : List X) (i : ℕ) (d e : X) → i < length xs →
    get_or xs i d ≡ get_or xs i e
any_default [] i d e lt = absurd (omega arith)
any_default (x ∷ xs) zero d e lt = refl
any_default (x ∷ xs) (suc i) d e lt = any_default xs i d e (omega arith)

pub alike_more : {X : Type 0} (P : X → X → Type 0) (xs ys : List X) (i : ℕ) (x y : X) →
    i < length xs → i < length ys → x ≡ get_or xs i x → y ≡ get_or ys i y
    → AllZip P (take i xs) (take i ys) → P x y → AllZip P (take (i + 1) xs) (take (i + 1) ys)
alike_more P xs ys i x y lx ly ix iy all one =
    let tx : take i xs ++ x ∷ [] ≡ take (i + 1) xs = ap (λ z. take i xs ++ z ∷ []) ix ∙ sym
    (take_more xs i x lx) in
    let ty : take i ys ++ y ∷ [] ≡ take (i + 1) ys = ap (λ z. take i ys ++ z ∷ []) iy ∙ sym
    (take_more ys i y ly) in
    subst (λ zs. AllZip P zs (take (i + 1) ys)) tx (subst (λ zs. AllZip P (take i xs ++ x ∷ []) zs)
    ty (AllZip-push P (take i xs) (take i ys) x y all one))

-- lists whose elements are alike by what they stand for stand for one list
pub alike_map : {X Y : Type 0} (of : X → Y) (xs ys : List X) → AllZip (λ a b. of a ≡ of b) xs ys →
    map of xs ≡ map of ys
alike_map of [] [] all = refl
alike_map of [] (y ∷ ys) all = absurd all
alike_map of (x ∷ xs) [] all = absurd all
alike_map of (x ∷ xs) (y ∷ ys) all = λ i. all.0 i ∷ alike_map of xs ys all.1 i

-- and rows that stand for the same are alike
pub alike_by : {X Y : Type 0} (of : X → Y) (xs ys : List X) → map of xs ≡ map of ys →
    AllZip (λ a b. of a ≡ of b) xs ys
alike_by of [] [] is = tt
alike_by of [] (y ∷ ys) is = cc
alike_by of (x ∷ xs) [] is = cc
alike_by of (x ∷ xs) (y ∷ ys) is =
    let head : of x ≡ of y = cc in
    let tail : map of xs ≡ map of ys = cc in
    (head, alike_by of xs ys tail)

-- the same over elements with their places
pub placed_step : {A E : Type 0} (f : List (ℕ × A) → List E) (g : ℕ × A → List E) →
    ((xs : List (ℕ × A)) (x : ℕ × A) → f (xs ++ x ∷ []) ≡ f xs ++ g x)
    → (items : List A) (p : ℕ) (a d : A) → p < length items → a ≡ get_or items p d →
    (before into after : List E) → into ≡ before ++ f (take p (enumerate_from 0 items)) →
    after ≡ into ++ g (p, a)
    → after ≡ before ++ f (take (p + 1) (enumerate_from 0 items))
placed_step {A = A} f g hom items p a d lt is before into after so_far more =
    let count = length-enumerate_from 0 items in
    let long : p < length (enumerate_from 0 items) = omega arith in
    let none : 0 + p ≡ p = omega arith in
    let x : ℕ × A = (p, a) in
    let place : x ≡ get_or (enumerate_from 0 items) p x =
    (λ i. (sym none i, is i)) ∙ sym (get_or-enumerate_from 0 items p (p, d) lt) ∙ any_default
    (enumerate_from 0 items) p (p, d) x long in
    step_more f g hom (enumerate_from 0 items) p x long place before into after so_far more

pub seen_step : {E : Type 0} (rows_of : List ℕ × RingRecord → List E) (xs : List (List ℕ ×
    Rc Ring Global)) (i : ℕ) (x : List ℕ × Rc Ring Global) → i < length xs → x ≡ get_or xs i x →
    (into after : List E)
    → into ≡ flat_map rows_of (seen (take i xs)) → after ≡ into ++ rows_of (x.0, x.1.value) →
    after ≡ flat_map rows_of (seen (take (i + 1) xs))
seen_step rows_of xs i x lt is into after so_far more =
    step_more {X = List ℕ × Rc Ring Global} (λ ys. flat_map rows_of (seen ys)) (λ y. rows_of (
      y.0,
      y.1.value,
    ))
    (λ ys y. ap (flat_map rows_of) (map_append (λ (z : List ℕ × Rc Ring Global). (z.0, z.1.value))
    ys (y ∷ [])) ∙ flat_append rows_of (seen ys) (y.0, y.1.value))
    xs i x lt is [] into after so_far more

pub lacking_nothing : {K V : Type 0} (R : K → K → Ordering) (same : V → V →
    Bool) (es : List (K × V)) → lacking R same [] es ≡ es
lacking_nothing R same [] = refl
lacking_nothing R same (e ∷ es) = ap (λ xs. e ∷ xs) (lacking_nothing R same es)

-- What is found unlike does not say the same.
pub unlike : (Alike Says : Type 0) (b : Bool) → b ≡ false → (IsTrue b ↔ Alike) → (Says → Alike) →
    IsTrue false ↔ Says
unlike Alike Says b is decides gives =
    (λ t. cc, λ says. subst IsTrue is (decides.1 (gives says)))
