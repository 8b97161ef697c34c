use Rattle.std.proofs.Common.{sym, ap, ◌∙◌}
use Rattle.std.specs.Option.{option_map}
use Rattle.ring_model.proofs.ByName.{ring_of_found}
use Rattle.ring_model.proofs.rings.Rings.get.Goals as goal

pub returns-in_err-entry : goal.returns-in_err-entry
returns-in_err-entry c =
    let none = rw (c.deref.ensures.value, c.in_err-entry.was) at c.find_ring.ensures in
    rw (c.from_residual.ensures, ← c.self.view_is) (ap (option_map (λ e. e.1.value)) none ∙ sym
    (ring_of_found c.self.inside.rings.items c.args.name.now))

pub returns : goal.returns
returns c =
    let some = rw (c.deref.ensures.value, c.in_ok-entry.was) at c.find_ring.ensures in
    rw (c.as_ref.ensures, ← c.self.view_is) (ap (option_map (λ e. e.1.value)) some ∙ sym
    (ring_of_found c.self.inside.rings.items c.args.name.now))
