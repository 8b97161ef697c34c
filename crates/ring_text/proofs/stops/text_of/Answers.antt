use Rattle.std.proofs.Common.{◌≡◌, length, ap, ◌∙◌, arith}
use Rattle.std.proofs.lemmas.List.{length-take-le}
use Rattle.ring_text.proofs.stops.text_of.Goals as goal

pub returns-clause-longest : goal.returns-clause-longest
returns-clause-longest c = λ n lt le utf8.
    let valid = c.in-Err.ensures.cases.1 in
    let end = c.valid_up_to.ensures in
    let long : length c.in-Ok-from_utf8.text.now ≡ c.valid_up_to.result =
    ap length c.in-Ok-from_utf8.ensures.cases.0 ∙ length-take-le c.valid_up_to.result
    c.args.bytes.now (omega (arith, valid.short)) in
    valid.longest n (omega arith) utf8
