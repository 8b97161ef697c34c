-- How many rows a change of rings concerns.
use Rattle.std.proofs.Common.{◌≡◌, inl, inr, ℕ, suc, Bool, true, false, not, cond}
use Rattle.std.proofs.Common.{List, [], ◌∷◌, map, filter, length, Option, Some}
use Rattle.std.proofs.Common.{None, Ordering, refl, sym, ap, ◌∙◌, is_some, is_none}
use Rattle.std.specs.List.{AllByRecursion, count_by}
use Rattle.std.specs.Ordering.{eq_by_cmp, is_eq}
use Rattle.std.specs.Cmp.{IsTotalOrder}
use Rattle.std.specs.FinMap.{find, from_entries, get, get-from_entries, is_sorted, IsAntisymmetric}
use Rattle.std.proofs.lemmas.Bool.{cases_Bool}
use Rattle.std.proofs.lemmas.Cmp.{tied_itself}
use Rattle.std.proofs.lemmas.List.Sums.{length-filter}
use Rattle.ring_words.specs.declared.device.Device.{Device}
use Rattle.store_model.specs.Entries as rows
use Rattle.store_model.specs.Entries.{NameNumber, name_number_cmp}
use Rattle.store_rows.specs.RingRows.{device_entry}
use Rattle.store_rows.specs.Differences.{gone_entries}
use Rattle.store_rows.specs.Inner.Lacking.{device_in, gone}
use Rattle.store_rows.proofs.Maps.{entries_of}
use Rattle.store_rows.proofs.Ordered.{weaker}
use Rattle.store_rows.proofs.Steps.{find_device}

none_or_some : {X : Type 0} (o : Option X) → is_none o ≡ not (is_some o)
none_or_some None = refl
none_or_some (Some x) = refl

pub alike_filter : {X : Type 0} (p q : X → Bool) → ((x : X) → p x ≡ q x) → (xs : List X) →
    filter p xs ≡ filter q xs
alike_filter p q same [] = refl
alike_filter p q same (x ∷ xs) = ap (λ t. cond t (x ∷ filter p xs) (filter p xs)) (same x) ∙ ap
    (λ ys. cond (q x) (x ∷ ys) ys) (alike_filter p q same xs)

module _ {K V : Type 0} {R : K → K → Ordering} (o : IsTotalOrder R) (exact : IsAntisymmetric R)
  where
    -- the entries of a map that another has not, of the lists that both come from
    pub gone_are : (old new : List (K × V)) → is_sorted R old ≡ true →
        gone_entries (from_entries {R = R} old) (from_entries new) ≡ gone R old new
    gone_are old new up =
        ap (filter (λ (e : K × V). not (is_some (get (from_entries {R = R} new) e.0))))
        (entries_of o exact old up)
        ∙ alike_filter _ _ (λ e. ap (λ f. not (is_some f)) (get-from_entries o new e.0) ∙ sym
        (none_or_some (find R e.0 new))) old

    there : (es : List (K × V)) → AllByRecursion (λ (e : K × V). find R e.0 es ≡ None → ⊥) es
    there [] = tt
    there (e ∷ es) = (
      λ none. (let h : Some e.1 ≡ None = sym (ap (λ r. cond (is_eq r) (Some e.1) (find R e.0 es))
          (tied_itself o e.0)) ∙ none in cc),
      weaker _ _ (λ x found none. elim (cases_Bool (eq_by_cmp R x.0 e.0)) [
        | inl here ↦ (let h : Some e.1 ≡ None = sym (ap (λ b. cond b (Some e.1) (find R x.0 es)) here)
            ∙ none in cc)
        | inr other ↦ found (sym (ap (λ b. cond b (Some e.1) (find R x.0 es)) other) ∙ none)
      ]) es (there es),
    )

    none_left : (old new all : List (K × V)) → ((q : K) → find R q new ≡ None → find R q all ≡ None) →
        AllByRecursion (λ (e : K × V). find R e.0 all ≡ None → ⊥) old
        → gone R old new ≡ []
    none_left [] new all kept found = refl
    none_left (e ∷ es) new all kept found =
        ap (λ t. cond t (e ∷ gone R es new) (gone R es new)) (some_of (find R e.0 new)
        (λ none. found.0 (kept e.0 none))) ∙ none_left es new all kept found.1
      where
        some_of : (f : Option V) → (f ≡ None → ⊥) → is_none f ≡ false
        some_of None apart = absurd (apart refl)
        some_of (Some v) apart = refl

    -- where no key goes, no entry is gone
    pub none_gone : (old new : List (K × V)) → ((q : K) → find R q new ≡ None → find R q old ≡ None) →
        gone R old new ≡ []
    none_gone old new kept = none_left old new old kept (there old)

alike_lengths : {X Y : Type 0} (b : Bool) (x : X) (xs : List X) (y : Y) (ys : List Y) →
    length xs ≡ length ys → length (cond b (x ∷ xs) xs) ≡ length (cond b (y ∷ ys) ys)
alike_lengths true x xs y ys same = ap suc same
alike_lengths false x xs y ys same = same

count_mapped : {X Y : Type 0} (p : Y → Bool) (q : X → Bool) (f : X → Y) →
    ((x : X) → p (f x) ≡ q x) → (xs : List X) → length (filter p (map f xs)) ≡ length (filter q xs)
count_mapped p q f same [] = refl
count_mapped p q f same (x ∷ xs) =
    ap (λ t. length (cond t (f x ∷ filter p (map f xs)) (filter p (map f xs)))) (same x)
    ∙ alike_lengths (q x) (f x) (filter p (map f xs)) x (filter q xs) (count_mapped p q f same xs)

-- how many devices of a ring have numbers that are not among others
pub gone_count : (name : List ℕ) (devices others : List Device) →
    length (gone name_number_cmp (map (device_entry name) devices) (map (device_entry name) others))
    ≡ count_by (λ (d : Device). is_none (device_in d.id others)) devices
gone_count name devices others =
    count_mapped (λ (e : NameNumber × rows.Device). is_none (find name_number_cmp e.0
    (map (device_entry name) others))) (λ (d : Device). is_none (device_in d.id others))
    (device_entry name) (λ d. ap is_none (find_device name d.id others)) devices
    ∙ length-filter _ devices
