-- What a lawful rebalance allows.
use Rattle.std.proofs.Common.{◌≡◌, ◌==◌, ℕ, Bool, true, false, not, ◌&&◌, Option, Some, None, refl}
use Rattle.std.proofs.Common.{ap, subst}
use Rattle.std.proofs.lemmas.Bool.{eq-eqb}
use Rattle.ring_model.specs.Ring.{RingRecord, has_present, seat}
use Rattle.ring_place.specs.Rebalance.{IsLawfulRebalance, IsRebalance, Leaves, differs, has_left}
use Rattle.ring_place.specs.Rebalance.{has_lost, is_locked, is_lost}

pub lawful : (old new : RingRecord) (hour : ℕ) → IsRebalance old hour new →
    IsLawfulRebalance old hour new
lawful old new hour r = record {
  gathered = r.gathered;
  lawful = r.lawful;
  seated = r.seated;
  after = r.after;
}

both : (a b : Bool) → (a && b) ≡ true → (a ≡ true) × (b ≡ true)
both true b h = (refl, h)
both false b h = absurd (cc h)

-- what has left isn't lost
left_remains : (old : RingRecord) (from to : Option ℕ) → has_left old from to ≡ true →
    is_lost old from ≡ false
left_remains old None to h = absurd (cc h)
left_remains old (Some id) to h = ap not (both (has_present id old.devices) (differs (Some id) to)
    h).0

-- what stays hasn't left
stay_stays : (old : RingRecord) (from : Option ℕ) → has_left old from from ≡ true → ⊥
stay_stays old None h = cc h
stay_stays old (Some id) h =
    let changed = (both (has_present id old.devices) (differs (Some id) (Some id)) h).1 in
    let same : (id == id) ≡ true = eq-eqb id id refl in
    let stays : not (id == id) ≡ false = ap not same in
    cc (changed, stays)

gathered_if : (old new : RingRecord) (hour partition replica : ℕ) (l : IsLawfulRebalance old hour
    new) → Leaves old new partition replica
    → (b : Bool) → l.gathered partition replica ≡ b → l.gathered partition replica ≡ true
gathered_if old new hour partition replica l leaves true is = is
gathered_if old new hour partition replica l leaves false is =
    absurd (stay_stays old (seat old partition replica)
    (subst (λ to. has_left old (seat old partition replica) to ≡ true) (l.seated.stay partition
    replica leaves.0 is) leaves.1))

-- a replica that leaves was gathered
is_gathered : (old new : RingRecord) (hour partition replica : ℕ) (l : IsLawfulRebalance old hour
    new) → Leaves old new partition replica → l.gathered partition replica ≡ true
is_gathered old new hour partition replica l leaves = gathered_if old new hour partition replica l
    leaves (l.gathered partition replica) refl

none_lost_if : (old new : RingRecord) (hour partition replica : ℕ) (l : IsLawfulRebalance old hour
    new) → Leaves old new partition replica
    → (b : Bool) → has_lost old partition ≡ b → has_lost old partition ≡ false
none_lost_if old new hour partition replica l leaves false is = is
none_lost_if old new hour partition replica l leaves true is =
    let lost = l.lawful.only_lost partition replica leaves.0 is (is_gathered old new hour partition
    replica l leaves) in
    let remains = left_remains old (seat old partition replica) (seat new partition replica)
    leaves.1 in
    absurd (cc (lost, remains))

-- and its partition has no lost seat
none_lost : (old new : RingRecord) (hour partition replica : ℕ) (l : IsLawfulRebalance old hour new)
    → Leaves old new partition replica → has_lost old partition ≡ false
none_lost old new hour partition replica l leaves = none_lost_if old new hour partition replica l
    leaves (has_lost old partition) refl

pub unlocked_leave : (old new : RingRecord) (hour partition replica : ℕ) →
    IsLawfulRebalance old hour new → Leaves old new partition replica →
    is_locked old hour partition ≡ false
unlocked_leave old new hour partition replica l leaves =
    l.lawful.unlocked partition replica leaves.0 (none_lost old new hour partition replica l leaves)
    (is_gathered old new hour partition replica l leaves)

pub one_leaves : (old new : RingRecord) (hour partition replica other : ℕ) →
    IsLawfulRebalance old hour new → Leaves old new partition replica →
    Leaves old new partition other → replica ≡ other
one_leaves old new hour partition replica other l leaves also =
    l.lawful.one partition replica other leaves.0 also.0 (none_lost old new hour partition replica l
    leaves)
    (is_gathered old new hour partition replica l leaves) (is_gathered old new hour partition other
    l also)
