use Rattle.std.proofs.Common.{◌≡◌, ◌<◌, ◌≤◌, ◌-◌, ℕ, Some, ap, arith, length, sym, ◌∙◌}
use Rattle.std.specs.Prelude.{slice_get}
use Rattle.std.proofs.lemmas.Option.{slice_get_within}
use Rattle.ring_words.specs.declared.device.Device.{Device}
use Rattle.ring_share.proofs.Standing.{at_most_number, found_device, gap_between, read_at}
use Rattle.ring_share.proofs.places.span_of.Goals as goal

-- where a device of this number stands
stands_between : (c : goal.After-saturating_sub-2) (k : ℕ) (device : Device)
    → slice_get c.args.devices.now k ≡ Some device → device.id ≡ c.args.id
    → (c.saturating_sub-2.result ≤ k) × (k < c.min-past.result)
stands_between c k device at named =
    let devices = c.args.devices.now in
    let within = slice_get_within devices k device at in
    let end = length devices - 1 in
    let last = c.index-devices-end.result in
    let read = read_at devices end last (omega (arith, within)) c.index-devices-end.is in
    let low = at_most_number devices c.requires.rise k device at in
    let gap = gap_between devices c.requires.rise (end - k) k end device last
    (omega (arith, within)) at read in
    let ids = ap (λ (d : Device). d.id) (c.index-devices-end.is) in
    let was : c.from-behind.result ≡ last.id - c.args.id = c.from-behind.ensures ∙
    c.saturating_sub.ensures ∙ ap (λ (n : ℕ). n - c.args.id) (sym ids) in (
      omega (arith, within, gap, was, named, c.saturating_sub-2.ensures),
      omega (arith, within, low, named, c.min-past.ensures, c.from.ensures),
    )

pub returns-clause-some : goal.returns-clause-some
returns-clause-some c =
    let found = found_device c.args.devices.now c.args.id c.requires.known in
    let there = stands_between c found.place found.stands.device found.stands.at
    found.stands.named in
    omega (arith, there)

pub returns-clause-between : goal.returns-clause-between
returns-clause-between c = stands_between c
