-- Seats are counted by the places of their devices.
use Rattle.std.proofs.Common.{◌≡◌, ◌≢◌, ◌==◌, ℕ, zero, suc, ◌+◌, ◌<◌, ◌≤◌, cond, List, [], ◌∷◌}
use Rattle.std.proofs.Common.{length, get_or, set, take, map, count_by, Some, refl, sym, ap, ◌∙◌}
use Rattle.std.proofs.Common.{⊎_elim, arith}
use Rattle.std.specs.Prelude.{slice_get}
use Rattle.std.specs.List.Sorted.{IsStrictlyIncreasing}
use Rattle.std.proofs.lemmas.Bool.{cases_lt, cases_eq, eq-eqb, ne_eqb}
use Rattle.std.proofs.lemmas.List.{get_or-set_same, get_or-set_other}
use Rattle.std.proofs.lemmas.List.Sums.{sum_by_more}
use Rattle.std.proofs.lemmas.Option.{same_Some}
use Rattle.ring_words.specs.declared.device.Device.{Device}
use Rattle.ring_share.specs.Near.{StandsAt}
use Rattle.ring_share.proofs.Sharing.{ids_rise}

-- devices at two places have different numbers
pub apart : (devices : List Device) → IsStrictlyIncreasing (map (λ device. device.id) devices) →
    (i j : ℕ) (a b : Device) → slice_get devices i ≡ Some a → slice_get devices j ≡ Some b
    → i ≢ j → a.id ≢ b.id
apart devices rise i j a b at bt ne same = ⊎_elim
    (λ lt. let less = ids_rise devices rise i j a b lt at bt in omega (arith, less, same))
    (λ ge. let less = ids_rise devices rise j i b a (omega (arith, ge, ne)) bt at in
    omega (arith, less, same))
    (cases_lt i j)

-- one more seat is counted
pub counts_more : (devices : List Device) (seats counts : List ℕ) (i here : ℕ) → i < length seats →
    IsStrictlyIncreasing (map (λ device. device.id) devices) → StandsAt devices (get_or seats i 0)
    here → here < length counts
    → ((place : ℕ) (device : Device) → slice_get devices place ≡ Some device →
    get_or counts place 0 ≡ count_by (λ seat. seat == device.id) (take i seats))
    → (place : ℕ) (device : Device) → slice_get devices place ≡ Some device →
    get_or (set counts here (get_or counts here 0 + 1)) place 0 ≡ count_by
    (λ seat. seat == device.id) (take (i + 1) seats)
counts_more devices seats counts i here lt rise stands within counted place device at =
    let before = counted place device at in
    let more = sum_by_more (λ (seat : ℕ). cond (seat == device.id) 1 0) seats i 0 lt in
    ⊎_elim
    (λ same.
    let one : stands.device ≡ device = same_Some stands.device device
    (sym stands.at ∙ ap (slice_get devices) (sym same) ∙ at) in
    let id : get_or seats i 0 ≡ device.id = sym stands.named ∙ ap (λ (d : Device). d.id) one in
    let yes : ◌≡◌ {A = ℕ} (cond (get_or seats i 0 == device.id) 1 0) 1 = rw (eq-eqb _ _ id) refl in
    let new : get_or (set counts here (get_or counts here 0 + 1)) place 0 ≡ get_or counts place 0 +
    1 =
    ap (λ (k : ℕ). get_or (set counts here (get_or counts here 0 + 1)) k 0) same ∙ get_or-set_same
    counts here (get_or counts here 0 + 1) 0 within ∙ ap (λ (k : ℕ). get_or counts k 0 + 1)
    (sym same) in
    omega (arith, before, more, yes, new))
    (λ other.
    let differ : get_or seats i 0 ≢ device.id = λ e. apart devices rise here place stands.device
    device stands.at at (λ s. other (sym s)) (stands.named ∙ e) in
    let none : ◌≡◌ {A = ℕ} (cond (get_or seats i 0 == device.id) 1 0) 0 =
    rw (ne_eqb _ _ differ) refl in
    let new = get_or-set_other counts here place (get_or counts here 0 + 1) 0 other in
    omega (arith, before, more, none, new))
    (cases_eq place here)

pub small_more : (counts : List ℕ) (here i : ℕ) → ((place : ℕ) → get_or counts place 0 ≤ i) →
    (place : ℕ) → get_or (set counts here (get_or counts here 0 + 1)) place 0 ≤ i + 1
small_more [] here i small place = omega arith
small_more (x ∷ counts) zero i small zero = let h : x ≤ i = small zero in omega (arith, h)
small_more (x ∷ counts) zero i small (suc place) = let h = small (suc place) in omega (arith, h)
small_more (x ∷ counts) (suc here) i small zero = let h : x ≤ i = small zero in omega (arith, h)
small_more (x ∷ counts) (suc here) i small (suc place) =
    small_more counts here i (λ k. small (suc k)) place
