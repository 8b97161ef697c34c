-- The orders of the keys are total, and only equal keys tie.
use Rattle.std.proofs.Common.{◌≡◌, ℤ, true, Ordering, Equal, refl, sym, true≢false}
use Rattle.std.specs.Ordering.{int_cmp, is_eq}
use Rattle.std.specs.Cmp.{IsTotalOrder, int_cmp_total}
use Rattle.std.specs.FinMap.{IsAntisymmetric, nat_cmp-IsAntisymmetric, int_cmp-IsAntisymmetric}
use Rattle.std.specs.FinMap.{slice_cmp-IsAntisymmetric}
use Rattle.std.proofs.lemmas.Cmp.{on_total, then_total, nat_list_cmp_total}
use Rattle.std.proofs.lemmas.Map.Lookups.{exact_pairs}
use Rattle.store_model.specs.Entries.{name_cmp, NameNumber, name_number_cmp, numbers_cmp}
use Rattle.store_model.specs.Entries.{SeatKey, seat_cmp}

pub name_total : IsTotalOrder name_cmp
name_total = nat_list_cmp_total

pub name_exact : IsAntisymmetric name_cmp
name_exact = slice_cmp-IsAntisymmetric nat_cmp-IsAntisymmetric

pub name_number_total : IsTotalOrder name_number_cmp
name_number_total = then_total (on_total (λ (k : NameNumber). k.0) name_total)
    (on_total (λ (k : NameNumber). k.1) int_cmp_total)

pub name_number_exact : IsAntisymmetric name_number_cmp
name_number_exact = exact_pairs name_cmp int_cmp name_exact int_cmp-IsAntisymmetric

numbers_total : IsTotalOrder numbers_cmp
numbers_total = then_total (on_total (λ (k : ℤ × ℤ). k.0) int_cmp_total)
    (on_total (λ (k : ℤ × ℤ). k.1) int_cmp_total)

numbers_exact : IsAntisymmetric numbers_cmp
numbers_exact = exact_pairs int_cmp int_cmp int_cmp-IsAntisymmetric int_cmp-IsAntisymmetric

pub seat_total : IsTotalOrder seat_cmp
seat_total = then_total (on_total (λ (k : SeatKey). k.0) name_total)
    (on_total (λ (k : SeatKey). k.1) numbers_total)

pub seat_exact : IsAntisymmetric seat_cmp
seat_exact = exact_pairs name_cmp numbers_cmp name_exact numbers_exact

-- what ties is equal
pub tied : (o : Ordering) → is_eq o ≡ true → o ≡ Equal
tied Equal h = refl
tied _ h = absurd (true≢false (sym h))
