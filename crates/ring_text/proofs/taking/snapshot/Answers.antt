use Rattle.std.proofs.Common.{◌∙◌, rules}
use Rattle.std.specs.Prelude.{IsTrue}
use Rattle.ring_words.specs.Texts.{is_label}
use Rattle.ring_text.proofs.Validity.{valid_of_ring}
use Rattle.ring_text.proofs.taking.snapshot.Goals as goal

pub invariant_of-result : goal.invariant_of-result
invariant_of-result c =
    let label : IsTrue (is_label c.args.name.now) = c.as_str-valid_name.ensures.valid in
    let valid = valid_of_ring c.args.name.now c.args.ring.now c.power.ensures.valid c.requires label in
    let devices = c.in_ok-copied.ensures ∙ c.devices.ensures.value in
    let seats = c.in_ok-from_slice.ensures.items ∙ c.seats.ensures.value in
    rw (
      c.in_ok-clone.ensures.cases,
      c.version.ensures,
      c.power.ensures.value,
      c.replicas.ensures.value,
      devices,
      seats,
    ) valid

pub returns-clause-taken : goal.returns-clause-taken
returns-clause-taken c = search rules
