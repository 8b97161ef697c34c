-- Where no zone is less crowded, no device is for a seat that is alone on its server.
use Rattle.std.proofs.Common.{◌≡◌, ◌==◌, ◌&&◌, ◌||◌, ◌∙◌, ◌<◌, ℕ, true, false, List, length}
use Rattle.std.proofs.Common.{Some, get_or, sym, arith}
use Rattle.std.specs.Prelude.{nat_lt, slice_get}
use Rattle.std.proofs.lemmas.Bool.{and_parts, eqb-true}
use Rattle.std.proofs.lemmas.Bool.Decides.{nat_tests}
use Rattle.std.proofs.lemmas.Option.{slice_get_within}
use Rattle.ring_words.specs.declared.device.Device.{Device}
use Rattle.ring_share.specs.declared.better.ByTier.{ByTier}
use Rattle.ring_share.specs.declared.tiers.Tier.TheVariants.{Region, Zone}
use Rattle.ring_share.specs.Crowd.{in_region, is_less}
use Rattle.ring_share.specs.Inner.Coded.{AreAllCodes, crowd_at}
use Rattle.ring_share.specs.Tiers.{AreTier}
use Rattle.ring_share.specs.Want.{is_open}
use Rattle.ring_share.proofs.Coding.{code_told}
use Rattle.ring_share.proofs.TierLists.{first_of}

-- against a seat that is alone on its server the number on the server doesn't count
no_server : (a b c d e f g : ℕ) → f ≡ 0
    → (nat_lt a d || ((a == d) && (nat_lt b e || ((b == e) && nat_lt c f)))) ≡ false
    → (nat_lt a d || ((a == d) && (nat_lt b e || ((b == e) && nat_lt g f)))) ≡ false
no_server a b c d e f g h k = grind (arith, nat_tests)

pub zone_floor : (devices : List Device) (codes counts : ByTier) → AreAllCodes devices codes →
    (zones : List ℕ) → AreTier Zone devices zones → (own : ℕ × ℕ × ℕ) → own.2 ≡ 0
    → ((index : ℕ) → index < length zones → is_less (crowd_at codes counts
    (get_or zones index 0)) own ≡ false)
    → (one : ℕ) (x : Device) → slice_get devices one ≡ Some x → is_open x ≡ true →
    is_less (crowd_at codes counts one) own ≡ false
zone_floor devices codes counts are zones have own alone none one x at opens =
    let first = first_of Zone devices zones have one x at opens in
    let place = get_or zones first.index 0 in
    let there = slice_get_within devices place first.first first.at in
    let here = slice_get_within devices one x at in
    let shared = and_parts (in_region first.first x) (first.first.row.zone == x.row.zone)
    first.shared in
    let region = eqb-true _ _ (sym (code_told Region devices place one
    (get_or codes.region place 0) (get_or codes.region one 0) first.first x first.at at
    (are.region place there) (are.region one here)) ∙ shared.0) in
    let zone = eqb-true _ _ (sym (code_told Zone devices place one (get_or codes.zone place 0)
    (get_or codes.zone one 0) first.first x first.at at (are.zone place there)
    (are.zone one here)) ∙ first.shared) in
    let less = none first.index first.below in
    let at_zone = crowd_at codes counts place in
    rw (sym region, sym zone) (no_server at_zone.0 at_zone.1 at_zone.2 own.0 own.1 own.2
    (crowd_at codes counts one).2 alone less)
