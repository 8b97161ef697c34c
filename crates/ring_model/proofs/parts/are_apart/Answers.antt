use Rattle.std.proofs.Common.{◌≤◌, length, sym, ◌∙◌, refl, true≢false, arith}
use Rattle.std.proofs.lemmas.List.{take_all}
use Rattle.ring_model.proofs.Validity.{apart_more, apart_fails}
use Rattle.ring_model.proofs.parts.are_apart.Goals as goal

pub returns-then-has_place_in : goal.returns-then-has_place_in
returns-then-has_place_in c =
    let found = sym c.has_place_in.ensures ∙ c.if-has_place_in.true in (
      λ no. absurd (true≢false (sym no)),
      λ apart. absurd (apart_fails c.args.devices.now c.loop-place.place
          c.index-devices-place.result (omega arith) c.index-devices-place.is found apart),
    )

pub loop-place-preserved : goal.loop-place-preserved
loop-place-preserved c = apart_more c.args.devices.now c.loop-place.place
    c.index-devices-place.result (omega arith) c.index-devices-place.is c.loop-place.invariant
    (sym c.has_place_in.ensures ∙ c.if-has_place_in.false)

pub returns : goal.returns
returns c =
    let past : length c.args.devices.now ≤ c.loop-place.place = omega arith in (
      λ _. rw (take_all c.loop-place.place c.args.devices.now past) at c.loop-place.invariant,
      λ _. refl,
    )
