use Rattle.std.proofs.Common.{◌≡◌, ◌&&◌, ◌∙◌, ℕ, Bool, false, Some, ap, map, sym}
use Rattle.std.proofs.Common.{get_or, refl, ⊎_elim, arith}
use Rattle.std.specs.Prelude.{slice_get}
use Rattle.std.proofs.lemmas.Bool.{and_from, and_left, and_right, cases_lt}
use Rattle.std.proofs.lemmas.List.Folds.{list_any_at, list_any_none}
use Rattle.std.proofs.lemmas.Option.{get_or_from_slice_get}
use Rattle.ring_words.specs.declared.device.Device.{Device}
use Rattle.ring_share.specs.declared.better.ByTier.{ByTier}
use Rattle.ring_share.specs.Crowd.{crowd, is_less, is_outside, others, tiers_of}
use Rattle.ring_share.specs.Inner.Coded.{crowd_at}
use Rattle.ring_share.specs.Near.{StandsAt}
use Rattle.ring_share.specs.Want.{is_open}
use Rattle.ring_share.proofs.Bridge.{crowd_told, none_better}
use Rattle.ring_share.proofs.Standing.{read_at}
use Rattle.ring_share.proofs.ZoneFloor.{zone_floor}
use Rattle.ring_share.proofs.better.has_better.Goals as goal
use Rattle.ring_share.proofs.better.has_better.Goals.{After-crowd_at-own}
use Rattle.ring_share.proofs.better.has_better.Goals.{else-less-via-then-less+else-is_free}
use Rattle.ring_share.proofs.better.has_better.Goals.{else-less-via-else-less}

-- how many other seats have each code
abbrev counts : After-crowd_at-own → ByTier
counts c = c.args.others.now

-- whether a device is less crowded for the seat than the seat's own
abbrev less_crowded : After-crowd_at-own → Device → Bool
less_crowded c device =
    let rest = others (map Some c.args.row.now) c.args.replica in
    is_less (crowd (tiers_of c.args.devices.now) rest device.id) (crowd (tiers_of c.args.devices.now)
    rest (get_or c.args.row.now c.args.replica 0))

abbrev free : After-crowd_at-own → Device → Bool
free c device = is_open device && is_outside (map Some c.args.row.now) device.id

-- the counts tell it
less_told : (c : After-crowd_at-own) (place : ℕ) (x : Device) → slice_get c.args.devices.now place ≡
    Some x → is_less (crowd_at c.args.codes.now (counts c) place) c.crowd_at-own.result ≡
    less_crowded c x
less_told c place x at =
    ap (λ a. is_less a c.crowd_at-own.result) (told x.id place (record {
      device = x;
      at = at;
      named = refl;
    }))
    ∙ ap (is_less (crowd (tiers_of c.args.devices.now) (others (map Some c.args.row.now)
    c.args.replica) x.id)) (c.crowd_at-own.ensures ∙ told (get_or c.args.row.now c.args.replica 0)
    (get_or c.args.places.now c.args.replica 0)
    (c.requires.places.stand c.args.replica c.requires.replica))
  where
    told : (id here : ℕ) → StandsAt c.args.devices.now id here → crowd_at c.args.codes.now
        (counts c) here ≡ crowd (tiers_of c.args.devices.now) (others (map Some c.args.row.now)
        c.args.replica) id
    told = crowd_told c.args.devices.now c.requires.devices.rise c.args.row.now c.args.places.now
        c.requires.places c.requires.devices.count c.args.codes.now (counts c) c.requires.codes
        c.args.replica c.requires.replica c.requires.others.region c.requires.others.zone
        c.requires.others.server

pub returns-then-not-has_less : goal.returns-then-not-has_less
returns-then-not-has_less c =
    let begun = (goal.at.returns-then-not-has_less c).After-crowd_at-own in
    sym (none_better c.args.devices.now c.args.row.now c.args.replica (λ one x at opens.
    sym (less_told begun one x at) ∙ zone_floor c.args.devices.now c.args.codes.now (counts begun)
    c.requires.codes c.args.zones.now c.requires.zones c.crowd_at-own.result c.if-own-eq0.true
    (c.has_less.ensures c.if-not-has_less.true) one x at opens))

pub returns-then-is_free : goal.returns-then-is_free
returns-then-is_free c =
    let begun = (goal.at.returns-then-is_free c).After-crowd_at-own in
    let device = c.index-devices-place.result in
    let at = read_at c.args.devices.now c.loop-place.place device c.loop-place-test.true
    c.index-devices-place.is in
    let less = sym (less_told begun c.loop-place.place device at) ∙ ap (λ a. is_less a
    c.crowd_at-own.result) (sym c.crowd_at.ensures) ∙ sym c.is_less-less.ensures ∙ c.if-less.true in
    sym (list_any_at (λ x. free begun x && less_crowded begun x) c.args.devices.now
    c.loop-place.place device c.loop-place-test.true (ap (λ x. free begun x && less_crowded begun x)
    (sym c.index-devices-place.is) ∙ and_from (free begun device) (less_crowded begun device)
    (sym c.is_free.ensures ∙ c.if-is_free.true) less))

pub loop-place-preserved : goal.loop-place-preserved
loop-place-preserved c =
    let begun = (goal.at.loop-place-preserved c).After-crowd_at-own in
    let device = c.index-devices-place.result in
    let at = read_at c.args.devices.now c.loop-place.place device c.loop-place-test.true
    c.index-devices-place.is in
    let less = sym (less_told begun c.loop-place.place device at) ∙ ap (λ a. is_less a
    c.crowd_at-own.result) (sym c.crowd_at.ensures) ∙ sym c.is_less-less.ensures in
    let no : (free begun device && less_crowded begun device) ≡ false = elim c.else-less.branch [
      | else-less-via-then-less+else-is_free w ↦ and_left (free begun device)
          (less_crowded begun device) (sym w.is_free.ensures ∙ w.if-is_free.false)
      | else-less-via-else-less w ↦ and_right (free begun device) (less_crowded begun device)
          (less ∙ w.if-less.false)
    ] in
    λ k d lt. ⊎_elim
    (λ before. c.loop-place.invariant k d before)
    (λ here.
    let same : c.loop-place.place ≡ k = omega (arith, here, lt) in
    rw (sym same, get_or_from_slice_get c.args.devices.now c.loop-place.place device d at) no)
    (cases_lt k c.loop-place.place)

pub returns : goal.returns
returns c = sym (list_any_none _ c.args.devices.now (λ k d lt. c.loop-place.invariant k d (omega (
  arith,
  lt,
  c.loop-place-test.false,
))))
