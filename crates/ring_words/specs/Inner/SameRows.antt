-- That rows are the same is an equivalence.
use Rattle.std.specs.Cmp.{IsEquivalence, and_equiv, nat_eq_equiv, on_equiv}
use Rattle.std.specs.Cmp.Lexicographic.{pointwise, lists_equiv, nat_list_eq_equiv}
use Rattle.ring_words.specs.declared.device.Row.{Row}
use Rattle.ring_words.specs.Rows.{is_same_row}

-- To be one row is an equivalence.
pub row_equiv : IsEquivalence is_same_row
row_equiv =
    and_equiv (on_equiv (λ (r : Row). r.region) nat_eq_equiv)
    (and_equiv (on_equiv (λ (r : Row). r.zone) nat_eq_equiv)
    (and_equiv (on_equiv (λ (r : Row). r.address) nat_eq_equiv)
    (and_equiv (on_equiv (λ (r : Row). r.port) nat_eq_equiv)
    (and_equiv (on_equiv (λ (r : Row). r.name) nat_list_eq_equiv)
    (on_equiv (λ (r : Row). r.weight) nat_eq_equiv)))))

-- To be the same rows is an equivalence.
pub rows_equiv : IsEquivalence (pointwise is_same_row)
rows_equiv = lists_equiv row_equiv
