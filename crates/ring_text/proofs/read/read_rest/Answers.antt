use Rattle.std.proofs.Common.{◌∷◌, [], List, ℕ, Vec, refl, sym, subst, ◌∙◌}
use Rattle.std.proofs.Common.{arith}
use Rattle.std.specs.Prelude.{IsTrue, codes, ◌==◌}
use Rattle.std.specs.List.{slice_split}
use Rattle.std.specs.declared.alloc.Global.{Global}
use Rattle.std.proofs.lemmas.Result.{err_from_is_err_and}
use Rattle.ring_words.specs.declared.device.Device.{Device}
use Rattle.ring_text.specs.Inner.Reading.{AreDeviceLines, FollowHead}
use Rattle.ring_text.specs.declared.head.Head.{Head}
use Rattle.ring_text.proofs.Rest.{none_whole, seats_follow, parts_found, end_follows, rest_is}
use Rattle.ring_text.proofs.read.read_rest.Goals as goal

abbrev seen : Vec Device Global × Vec ℕ Global → List Device × List ℕ
seen x = (x.0.items, x.1.items)

abbrev Follow : Head → List ℕ → List Device × List ℕ → Type 0
Follow head text x = FollowHead head (slice_split (λ b. b == 10) text) x.0 x.1

pub returns-in_err-rest : goal.returns-in_err-rest
returns-in_err-rest c =
    let p = err_from_is_err_and c.from_residual-in_err-rest.result
    c.from_residual-in_err-rest.ensures.1 in
    let head = c.args.head.now in
    let text = c.args.text.now in
    let has = rw c.from.ensures at c.in_ok-lines.ensures.read in
    rw (p.1, p.2) (none_whole seen (Follow head text)
    c.in_err-rest.field-0.0
    (λ bad y is. let found = seats_follow head text c.in_ok-lines.rest.now _ y.0 y.1 has is in
    (rw bad at c.in_err-rest.ensures.read) found.0 found.1))

pub returns-in_err-seats : goal.returns-in_err-seats
returns-in_err-seats c =
    let p = err_from_is_err_and c.from_residual-in_err-seats.result
    c.from_residual-in_err-seats.ensures.1 in
    let head = c.args.head.now in
    let text = c.args.text.now in
    let has = rw c.from.ensures at c.in_ok-lines.ensures.read in
    let bytes = c.as_bytes.ensures.value in
    rw (p.1, p.2) (none_whole seen (Follow head text)
    c.in_err-seats.field-0.0
    (λ bad y is.
    let found = parts_found head text c.in_ok-lines.rest.now c.in_ok-rest.rest.now _ y.0 y.1 has
    c.in_ok-rest.ensures.read is in
    (rw bad at c.in_err-seats.ensures.bad) refl is.parts.1 (codes "end" ∷ [] ∷ []) y.1
    (rw bytes found.others) (omega arith)
    (is.cut.partitions ∙ sym c.partition_count-partitions.ensures.value) is.second))

pub returns-then-not-is_end : goal.returns-then-not-is_end
returns-then-not-is_end c = λ y is.
    let head = c.args.head.now in
    let text = c.args.text.now in
    let has = rw c.from.ensures at c.in_ok-lines.ensures.read in
    let bytes = c.as_bytes.ensures.value in
    let found = parts_found head text c.in_ok-lines.rest.now c.in_ok-rest.rest.now _ y.0 y.1 has
    c.in_ok-rest.ensures.read is in
    let end = end_follows c.partition_count-partitions.result head.replicas
    c.in_ok-rest.rest.now c.in_ok-seats.rest.now c.in_ok-seats.seats.items is.parts.1
    (rw bytes at c.in_ok-seats.ensures.read) found.others
    (is.cut.partitions ∙ sym c.partition_count-partitions.ensures.value) in
    let yes : IsTrue c.is_end.result = c.is_end.ensures.1 end in
    cc (yes, c.if-not-is_end.true)

pub returns-in_err-devices : goal.returns-in_err-devices
returns-in_err-devices c =
    let p = err_from_is_err_and c.from_residual-in_err-devices.result
    c.from_residual-in_err-devices.ensures.1 in
    let head = c.args.head.now in
    let text = c.args.text.now in
    let has = rw c.from.ensures at c.in_ok-lines.ensures.read in
    rw (p.1, p.2) (none_whole seen (Follow head text)
    c.in_err-devices.field-0.0
    (λ bad y is.
    let found = parts_found head text c.in_ok-lines.rest.now c.in_ok-rest.rest.now _ y.0 y.1 has
    c.in_ok-rest.ensures.read is in
    (rw (bad, c.deref.ensures.value) at c.in_err-devices.ensures) y.0
    (subst (λ (t : List (List ℕ)). AreDeviceLines t y.0) (sym found.devices) is.first)))

pub returns : goal.returns
returns c =
    let head = c.args.head.now in
    let has = rw c.from.ensures at c.in_ok-lines.ensures.read in
    let bytes = c.as_bytes.ensures.value in
    let partitions = rw (bytes, c.partition_count-partitions.ensures.value) at
    c.in_ok-seats.ensures.read in
    rest_is head c.args.text.now c.in_ok-lines.rest.now c.in_ok-rest.rest.now
    c.in_ok-seats.rest.now _ c.in_ok-devices.devices.items c.in_ok-seats.seats.items has
    c.in_ok-rest.ensures.read partitions (c.is_end.ensures.0 c.if-not-is_end.false)
    (rw c.deref.ensures.value at c.in_ok-devices.ensures)
