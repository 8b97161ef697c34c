-- Seats that stay, seats that differ, and what is told of a rebalance.
use Rattle.std.proofs.Common.{◌≡◌, ℕ, ◌<◌, ◌≤◌, ◌+◌, ◌∙◌, true, false, not, List}
use Rattle.std.proofs.Common.{get_or, length, take, count_by, Option, Some, None, ap}
use Rattle.std.proofs.Common.{refl, ⊎_elim}
use Rattle.std.proofs.Math.Dec.{eqb}
use Rattle.std.proofs.lemmas.Bool.{cases_lt}
use Rattle.std.proofs.lemmas.List.Sums.{count_by_more_no, count_by_more_yes}
use Rattle.std.proofs.lemmas.Slice.Zip.{get_or-zip}
use Rattle.std.specs.List.{zip}
use Rattle.std.specs.Option.{option_eq}
use Rattle.serde_json.specs.Data.{Data}
use Rattle.ring_model.specs.Ring.{RingRecord}
use Rattle.ring_place.specs.Rebalance.{differs}
use Rattle.ring_words.specs.declared.device.Device.{Device}
use Rattle.ring_reads.specs.Moves.{stays_on}
use Rattle.ring_reads.specs.Preview.{device_moves}
use Rattle.ring_tables.proofs.Lists.{pair_below}

-- two seats are compared
pub differs_is : (a b : Option ℕ) → not (option_eq eqb a b) ≡ differs a b
differs_is None None = refl
differs_is None (Some y) = refl
differs_is (Some x) None = refl
differs_is (Some x) (Some y) = refl

-- what is on the device of a number both times at a place
at_place : (before after : List ℕ) (id place : ℕ) → place < length before → place < length after →
    stays_on id (get_or (zip before after) place (0, 0))
    ≡ stays_on id (get_or before place 0, get_or after place 0)
at_place before after id place below under =
    ap (stays_on id) (get_or-zip before after place (0, 0) below under)

-- one more seat stays
pub one_stays : (before after : List ℕ) (id place : ℕ) → place < length before →
    place < length after → stays_on id (get_or before place 0, get_or after place 0) ≡ true →
    count_by (stays_on id) (take (place + 1) (zip before after))
    ≡ count_by (stays_on id) (take place (zip before after)) + 1
one_stays before after id place below under stays =
    count_by_more_yes (stays_on id) (zip before after) place (0, 0)
    (pair_below before after place below under)
    (at_place before after id place below under ∙ stays)

-- one more seat doesn't
pub one_leaves : (before after : List ℕ) (id place : ℕ) → place < length before →
    place < length after → stays_on id (get_or before place 0, get_or after place 0) ≡ false →
    count_by (stays_on id) (take (place + 1) (zip before after))
    ≡ count_by (stays_on id) (take place (zip before after))
one_leaves before after id place below under leaves =
    count_by_more_no (stays_on id) (zip before after) place (0, 0)
    (pair_below before after place below under)
    (at_place before after id place below under ∙ leaves)

-- what is told of a device beside what it wants
abbrev pub pair_moves : RingRecord → RingRecord → Device × ℕ → Data
pair_moves old new e = device_moves old new e.0 e.1

-- where there aren't too few, there are enough
pub enough_open : (open_devices replicas : ℕ) → (open_devices < replicas → ⊥) →
    replicas ≤ open_devices
enough_open open_devices replicas none =
    ⊎_elim (λ few. absurd (none few)) (λ enough. enough) (cases_lt open_devices replicas)
