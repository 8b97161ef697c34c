-- How many seats are in a tier, by the numbers that tell tiers.
use Rattle.std.proofs.Common.{◌≡◌, ◌==◌, ◌+◌, ◌∙◌, ℕ, suc, ◌<◌, ◌≤◌, Bool, true, false, cond, List, [], ◌∷◌}
use Rattle.std.proofs.Common.{All, length, get_or, take, count_by, Option, Some, None, refl, ap, subst, arith}
use Rattle.std.proofs.lemmas.Bool.{and_parts}
use Rattle.std.proofs.lemmas.List.Sums.{sum_by-cons, sum_by_more}
use Rattle.std.specs.Prelude.{if◌then◌else◌}
use Rattle.ring_words.specs.Limits.{most_devices}
use Rattle.ring_words.specs.declared.device.Device.{Device}
use Rattle.ring_share.specs.Codes.{AreCodes, IsCode}
use Rattle.ring_share.specs.Crowd.{device_by_id, in_zone, is_on, on_server, pass_both, tiers_of}
use Rattle.ring_share.specs.Tiers.{shares}
use Rattle.ring_share.specs.declared.tiers.Tier.{Tier}
use Rattle.ring_share.proofs.Coding.{code_told}
use Rattle.ring_room.specs.Inner.TierCounts.{places_with}
use Rattle.ring_room.specs.Load.{Load, IsLoad}
use Rattle.ring_room.specs.Places.{id_at, seats_at}
use Rattle.ring_room.proofs.Searching.DevicesAt.{at_most_one, is_load, tier_at}
use Rattle.ring_room.proofs.Searching.FreeOutside.{device_there}

-- one more place is counted
pub places_more : (codes places : List ℕ) (i code : ℕ) → i < length places
    → places_with codes (take (i + 1) places) code ≡ places_with codes (take i places) code
    + (if code == get_or codes (get_or places i 0) 0 then 1 else 0)
places_more codes places i code lt = sum_by_more
    (λ place. cond (code == get_or codes place 0) 1 0) places i 0 lt

pub at_most_one_more : (codes places : List ℕ) (i code : ℕ)
    → (if code == get_or codes (get_or places i 0) 0 then 1 else 0) ≤ 1
at_most_one_more codes places i code = at_most_one (code == get_or codes (get_or places i 0) 0)

-- as many places have a number as devices at them pass a test, if it tells these
seats_with : (test : ℕ → Bool) (devices : List Device) (codes : List ℕ) (code : ℕ)
    (others : List ℕ) → All (λ other. other < length devices) others
    → ((other : ℕ) → other < length devices → test (id_at devices other) ≡
    (code == get_or codes other 0))
    → places_with codes others code ≡ count_by (is_on test) (seats_at devices others)
seats_with test devices codes code [] within told = refl
seats_with test devices codes code (other ∷ others) within told =
    let one = sum_by-cons (λ place. cond (code == get_or codes place 0) 1 0) other others in
    let seat = sum_by-cons (λ s. cond (is_on test s) 1 0) (Some (id_at devices other))
    (seats_at devices others) in
    let head = ap {B = ℕ} (λ b. cond b 1 0) (told other (within 0 0 (omega arith))) in
    let tail = seats_with test devices codes code others
    (λ k d lt. within (suc k) d (omega (arith, lt))) told in
    omega (arith, one, seat, head, tail)

-- counts by numbers are those of the seats in a device's tier
pub counted_as : (tier : Tier) (load now : Load) → load ≡ now → IsLoad load → (codes : List ℕ)
    → AreCodes tier load.devices codes → (others : List ℕ)
    → All (λ other. other < length now.devices) others → (counts : List ℕ)
    → ((code : ℕ) → code < most_devices → get_or counts code 0 ≡ places_with codes others code)
    → (place code : ℕ) → place < length now.devices → IsCode tier now.devices place code
    → get_or counts code 0 ≡ count_by (is_on (λ other. pass_both (shares tier)
    (device_by_id (id_at now.devices place) now.devices) (device_by_id other now.devices)))
    (seats_at now.devices others)
counted_as tier load now same is codes told others within counts counted place code lt mine =
    let loaded = is_load load now same is in
    let few = loaded.few in
    let below = mine.within in
    let codes_told = subst (λ (l : Load). AreCodes tier l.devices codes) same told in
    let x = device_there now.devices place lt in
    counted code (omega (arith, few, below, lt))
    ∙ seats_with (λ other. pass_both (shares tier)
    (device_by_id (id_at now.devices place) now.devices) (device_by_id other now.devices))
    now.devices codes code others within
    (λ other mt. let y = device_there now.devices other mt in
    tier_at (shares tier) now.devices loaded.rise place other x.0 y.0 x.1 y.1
    ∙ code_told tier now.devices place other code (get_or codes other 0) x.0 y.0 x.1 y.1 mine
    (codes_told other mt))

-- the number of a device
pub told_here : (tier : Tier) (load now : Load) → load ≡ now → (codes : List ℕ)
    → AreCodes tier load.devices codes → (place : ℕ) → place < length now.devices
    → IsCode tier now.devices place (get_or codes place 0)
told_here tier load now same codes told place lt =
    subst (λ (l : Load). AreCodes tier l.devices codes) same told place lt

-- the count that is read by it
pub read_counted : (counts : List ℕ) (told code read near : ℕ) → code ≡ told
    → read ≡ get_or counts code 0 → get_or counts told 0 ≡ near → read ≡ near
read_counted counts told code read near named at is =
    at ∙ ap (λ n. get_or counts n 0) named ∙ is

-- ---- servers are in zones

both_there : (a b : Option Device) → pass_both on_server a b ≡ true → pass_both in_zone a b ≡ true
both_there None b h = absurd (cc h)
both_there (Some a) None h = absurd (cc h)
both_there (Some a) (Some b) h = (and_parts (in_zone a b) (a.row.address == b.row.address) h).0

fewer_seat : (f g : ℕ → Bool) → ((n : ℕ) → g n ≡ true → f n ≡ true) → (seat : Option ℕ)
    → cond (is_on g seat) 1 0 ≤ cond (is_on f seat) 1 0
fewer_seat f g wider None = omega arith
fewer_seat f g wider (Some n) = by_test (g n) (f n) (wider n) where
  by_test : (a b : Bool) → (a ≡ true → b ≡ true) → cond a 1 0 ≤ cond b 1 0
  by_test false b h = omega arith
  by_test true true h = omega arith
  by_test true false h = absurd (let no = h refl in cc no)

fewer : (f g : ℕ → Bool) → ((n : ℕ) → g n ≡ true → f n ≡ true) → (row : List (Option ℕ))
    → count_by (is_on g) row ≤ count_by (is_on f) row
fewer f g wider [] = omega arith
fewer f g wider (seat ∷ row) =
    let one = sum_by-cons (λ s. cond (is_on f s) 1 0) seat row in
    let other = sum_by-cons (λ s. cond (is_on g s) 1 0) seat row in
    let head = fewer_seat f g wider seat in
    let tail = fewer f g wider row in
    omega (arith, one, other, head, tail)

-- in a zone without seats no server has any
pub none_on_server : (devices : List Device) (id : ℕ) (row : List (Option ℕ))
    → count_by (is_on ((tiers_of devices).zone id)) row ≡ 0
    → count_by (is_on ((tiers_of devices).server id)) row ≡ 0
none_on_server devices id row none =
    let few = fewer ((tiers_of devices).zone id) ((tiers_of devices).server id)
    (λ n h. both_there (device_by_id id devices) (device_by_id n devices) h) row in
    omega (arith, none, few)
