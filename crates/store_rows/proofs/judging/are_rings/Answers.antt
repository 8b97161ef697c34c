use Rattle.std.proofs.Common.{map, ap, sym, ◌∙◌}
use Rattle.std.proofs.lemmas.Result.{IfOk-weaker}
use Rattle.store_model.specs.Contents.{ring_of, device_of, published_of}
use Rattle.store_rows.proofs.Steps.{alike_by, alike_map, unlike}
use Rattle.store_rows.proofs.judging.are_rings.Goals as goal

pub returns : goal.returns
returns c = IfOk-weaker c.are_places.result _ _ (λ same says. (
  λ t. record {
    rings_are = ap (map ring_of) (sym c.as_slice.ensures.value) ∙ alike_map ring_of
        c.as_slice.result.now c.as_slice-2.result.now (c.are_alike.ensures.0 c.if-not-are_alike.false) ∙
        ap (map ring_of) c.as_slice-2.ensures.value ∙ c.in_ok-made.ensures;
    devices = ap (map device_of) (sym c.as_slice-3.ensures.value) ∙ alike_map device_of
        c.as_slice-3.result.now c.as_slice-4.result.now
        (c.are_alike-2.ensures.0 c.if-not-are_alike-2.false) ∙ ap (map device_of)
        c.as_slice-4.ensures.value ∙ c.in_ok-devices.ensures;
    published = ap (map published_of) (sym c.as_slice-5.ensures.value) ∙ alike_map published_of
        c.as_slice-5.result.now c.as_slice-6.result.now
        (c.are_alike-3.ensures.0 c.if-not-are_alike-3.false) ∙ ap (map published_of)
        c.as_slice-6.ensures.value ∙ c.in_ok-texts.ensures;
    places = says.0 t;
  },
  λ all. says.1 all.places,
)) c.are_places.ensures

pub returns-then-not-are_alike : goal.returns-then-not-are_alike
returns-then-not-are_alike c = unlike _ _ c.are_alike.result c.if-not-are_alike.true
    c.are_alike.ensures (λ says. alike_by ring_of c.as_slice.result.now c.as_slice-2.result.now
    (ap (map ring_of) c.as_slice.ensures.value ∙ says.rings_are ∙ sym c.in_ok-made.ensures
    ∙ ap (map ring_of) (sym c.as_slice-2.ensures.value)))

pub returns-then-not-are_alike-2 : goal.returns-then-not-are_alike-2
returns-then-not-are_alike-2 c = unlike _ _ c.are_alike-2.result c.if-not-are_alike-2.true
    c.are_alike-2.ensures (λ says. alike_by device_of c.as_slice-3.result.now c.as_slice-4.result.now
    (ap (map device_of) c.as_slice-3.ensures.value ∙ says.devices ∙ sym c.in_ok-devices.ensures
    ∙ ap (map device_of) (sym c.as_slice-4.ensures.value)))

pub returns-then-not-are_alike-3 : goal.returns-then-not-are_alike-3
returns-then-not-are_alike-3 c = unlike _ _ c.are_alike-3.result c.if-not-are_alike-3.true
    c.are_alike-3.ensures (λ says. alike_by published_of c.as_slice-5.result.now c.as_slice-6.result.now
    (ap (map published_of) c.as_slice-5.ensures.value ∙ says.published ∙ sym c.in_ok-texts.ensures
    ∙ ap (map published_of) (sym c.as_slice-6.ensures.value)))
