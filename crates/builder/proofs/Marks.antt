-- A mark that is put on a device and taken off again leaves the device as it was.
use Rattle.std.proofs.Common.{◌≡◌, ◌==◌, ◌∙◌, ◌<◌, ℕ, Bool, false, true, cond, List, [], ◌∷◌, None, Some}
use Rattle.std.proofs.Common.{ap, arith, get_or, length, map, refl, subst, sym}
use Rattle.std.specs.Prelude.{not}
use Rattle.std.specs.List.Sorted.{IsStrictlyIncreasing}
use Rattle.std.proofs.lemmas.Bool.{eqb-true, not-false, not-true}
use Rattle.std.proofs.lemmas.List.{get_or-map, length-map, same_lists}
use Rattle.std.proofs.lemmas.Option.{slice_get-get_or}
use Rattle.ring_model.specs.Ring.{RingRecord, altered_at, has_device, has_present, with_altered}
use Rattle.ring_model.specs.Rings.{ring_at}
use Rattle.ring_room.proofs.Searching.DevicesAt.{present_at}
use Rattle.ring_words.specs.declared.device.Device.{Device}
use Rattle.ring_words.specs.declared.request.Limits.{Limits}
use Rattle.ring_words.specs.declared.command.Act.TheVariants as act
use Rattle.ring_words.specs.declared.command.DeviceAct.TheVariants as device_act
use Rattle.ring_words.specs.declared.command.Done.{Done}
use Rattle.ring_words.specs.declared.command.Refusal.{Refusal}
use Rattle.ring_words.specs.declared.command.Refusal.TheVariants as refusal
use Rattle.ring_words.specs.declared.command.Reply.TheVariants as reply
use Rattle.builder.specs.Safety.{AreValid}
use Rattle.builder.specs.Step.{AltersDevice, Cause, Effect, State, Step, causes}
use Rattle.builder.specs.Step.{first_cause, of_device}
use Rattle.builder.proofs.RingAt.{one_ring, ring_at-with}
use Rattle.builder.proofs.ValidRings.{valid_at}

-- ---- the devices

present : (device : Device) → device.removed ≡ false → record device { removed = false } ≡ device
present device is = λ i. record device { removed = sym is i }

back_if : (id : ℕ) (device : Device) (b : Bool) → (device.id == id) ≡ b
    → (b ≡ true → device.removed ≡ false)
    → altered_at id device_act.Keep (cond b (record device { removed = true }) device) ≡ device
back_if id device true is here = rw is (present device (here refl))
back_if id device false is here = rw is refl

module _ (devices : List Device) (rise : IsStrictlyIncreasing (map (λ device. device.id) devices))
    (id : ℕ) (there : has_present id devices ≡ true) where
  -- the device of the number isn't marked
  unmarked_at : (k : ℕ) (d : Device) → k < length devices → ((get_or devices k d).id == id) ≡ true
      → (get_or devices k d).removed ≡ false
  unmarked_at k d within same =
      let device : Device = get_or devices k d in
      let named : device.id ≡ id = eqb-true device.id id same in
      not-true device.removed (sym (present_at devices rise k device (slice_get-get_or devices k d
      within)) ∙ ap (λ (n : ℕ). has_present n devices) named ∙ there)

  as_before : map (altered_at id device_act.Keep) (map (altered_at id device_act.Remove) devices)
      ≡ devices
  as_before =
      let mark : Device → Device = altered_at id device_act.Remove in
      let unmark : Device → Device = altered_at id device_act.Keep in
      let Marked : List Device = map mark devices in
      let count : length Marked ≡ length devices = length-map devices mark in
      same_lists (map unmark Marked) devices (length-map Marked unmark ∙ count)
      (λ k d low.
      (let long : k < length Marked = omega (arith, low, length-map Marked unmark) in
      let within : k < length devices = omega (arith, long, count) in
      let device : Device = get_or devices k d in
      get_or-map unmark Marked k d d long
      ∙ ap unmark (get_or-map mark devices k d d within)
      ∙ back_if id device (device.id == id) refl (unmarked_at k d within)))

-- ---- the ring

abbrev two : Refusal → Bool → Refusal → Bool → List Cause
two p a q b = record { refused = p; stands = a } ∷ record { refused = q; stands = b } ∷ []

second_clear : (p q : Refusal) (a b : Bool) → first_cause (two p a q b) ≡ None → b ≡ false
second_clear p q true b e = cc
second_clear p q false true e = cc
second_clear p q false false e = refl

-- a device that is marked wasn't
was_present : (id : ℕ) (ring : RingRecord) → first_cause (of_device id device_act.Remove ring) ≡ None
    → has_present id ring.devices ≡ true
was_present id ring clear = not-false _ (second_clear refusal.NoDevice refusal.DeviceRemoved
    (not (has_device id ring.devices)) (not (has_present id ring.devices)) clear)

pub kept_as_it_was : (limits : Limits) (rings mid after : State) (hour later : ℕ) (name : List ℕ)
    (id : ℕ) (marks unmarks : Done) (old new : RingRecord) → AreValid rings
    → Step limits rings hour (record { ring = name; act = act.OnDevice id device_act.Remove })
    (reply.Done marks) mid
    → Step limits mid later (record { ring = name; act = act.OnDevice id device_act.Keep })
    (reply.Done unmarks) after
    → ring_at name rings ≡ Some old → ring_at name after ≡ Some new
    → record new { version = old.version } ≡ old
kept_as_it_was limits rings mid after hour later name id marks unmarks old new valid one two was is =
    let marks_it = act.OnDevice id device_act.Remove in
    let keeps_it = act.OnDevice id device_act.Keep in
    let clear : first_cause (of_device id device_act.Remove old) ≡ None =
    subst (λ o. first_cause (causes limits rings hour o marks_it) ≡ None) was one.0 in
    let removes : AltersDevice id device_act.Remove old marks one.1.0 =
    subst (λ o. Effect name hour o marks_it marks one.1.0) was one.1.1 in
    let between : ring_at name mid ≡ Some one.1.0 =
    ap (ring_at name) one.1.2 ∙ ring_at-with rings name one.1.0 in
    let keeps : AltersDevice id device_act.Keep one.1.0 unmarks two.1.0 =
    subst (λ o. Effect name later o keeps_it unmarks two.1.0) between two.1.1 in
    let last : two.1.0 ≡ new =
    one_ring two.1.0 new (sym (ring_at-with mid name two.1.0) ∙ sym (ap (ring_at name) two.1.2) ∙ is)
    in
    let whole : new ≡ with_altered (with_altered old id device_act.Remove) id device_act.Keep =
    sym last ∙ keeps.0 ∙ ap (λ (r : RingRecord). with_altered r id device_act.Keep) removes.0 in
    let devices = as_before old.devices (valid_at rings name old valid.each was).devices.rise id
    (was_present id old clear) in
    ap (λ (r : RingRecord). record r { version = old.version }) whole
    ∙ ap (λ (ds : List Device). record old { devices = ds }) devices
