use Rattle.std.proofs.Common.{◌≡◌, rules, refl}
use Rattle.std.proofs.lemmas.List.Elements.{same_from_all_zip}
use Rattle.ring_model.specs.Parts.{texts_of}
use Rattle.ring_model.proofs.Copies.{same_texts}
use Rattle.ring_model.proofs.parts.RingParts.copy.Goals as goal

pub returns : goal.returns
returns c =
    let devices : c.in_ok-clone.field-0.items ≡ c.args.self.now.devices.items =
    same_from_all_zip _ _ _ c.in_ok-clone.ensures.cases.0 (λ x y r. search rules) in
    let seats : c.in_ok-clone-2.field-0.items ≡ c.args.self.now.seats.items =
    same_from_all_zip _ _ _ c.in_ok-clone-2.ensures.cases.0 (λ x y r. search rules) in
    let moved : c.in_ok-clone-3.field-0.items ≡ c.args.self.now.moved.items =
    same_from_all_zip _ _ _ c.in_ok-clone-3.ensures.cases.0 (λ x y r. search rules) in
    let published : texts_of c.in_ok-clone-4.field-0.items ≡ texts_of
    c.args.self.now.published.items = same_texts _ _ c.in_ok-clone-4.ensures.cases.0 in
    rw (devices, seats, moved, published) refl
