use Rattle.std.proofs.Common.{◌≡◌, ◌<◌, ℕ, true, List, All, ap, sym, subst, ◌∙◌, ◌++◌, ◌∷◌, []}
use Rattle.std.proofs.Common.{drop, take, length, ◌+◌, arith}
use Rattle.std.proofs.lemmas.Result.{err_from_is_err_and}
use Rattle.ring_model.specs.Ring.{RingRecord}
use Rattle.ring_model.specs.Rings.{is_before}
use Rattle.store_rows.specs.RingRows.{NamedRings}
use Rattle.store_rows.proofs.Parting.{named_as_row, next_ring, none_left, stands_of}
use Rattle.store_rows.proofs.Reading.{fails_likewise, fails_where, reads_likewise}
use Rattle.store_rows.proofs.rings_reading.read_rings.Goals as goal

pub returns-in_err-name : goal.returns-in_err-name
returns-in_err-name c =
    let p = err_from_is_err_and c.from_residual.result c.from_residual.ensures.1 in
    rw (p.1, p.2) (reads_likewise _ (λ (rings : NamedRings). rings) _ c.in_err-name.field-0.0
    c.in_err-name.ensures.read (λ all s. let n = next_ring c.args.is_first c.args.rows.now
    c.row-item.result c.args.tables c.loop-row.rest all c.loop-row.row-index s c.loop-row-test.true
    c.row-item.is (c.loop-row.invariant all s).1 in (
      n.e.0,
      record {
        is = c.as_str-in-loop-row.ensures.value ∙ named_as_row c.row-item.result n.e n.is;
        valid = n.named.name;
      },
    )))

pub returns-in_err-read_ring : goal.returns-in_err-read_ring
returns-in_err-read_ring c =
    let r = c.from_residual-in_err-read_ring in
    let p = err_from_is_err_and r.result r.ensures.1 in
    rw (p.1, p.2) (fails_likewise (λ (ring : RingRecord). ring) _
    (λ (rings : NamedRings). rings) _ c.in_err-read_ring.field-0.0 c.in_err-read_ring.ensures (λ all s. let n = next_ring
    c.args.is_first c.args.rows.now c.row-item.result c.args.tables c.loop-row.rest all
    c.loop-row.row-index s c.loop-row-test.true c.row-item.is (c.loop-row.invariant all s).1 in
    let parts = c.split.ensures c.args.is_first n.e (drop (c.loop-row.row-index + 1) all) n.by
    (sym (c.as_str.ensures.value ∙ named_as_row c.row-item.result n.e n.is)) n.say in
    (n.e.1, stands_of c.args.is_first c.row-item.result c.split.result.0 n.e parts.0 n.is n.named)))

pub returns-in_err-rings : goal.returns-in_err-rings
returns-in_err-rings c =
    let r = c.from_residual-in_err-rings in
    let p = err_from_is_err_and r.result r.ensures.1 in
    rw (p.1, p.2) (fails_where (λ (rings : NamedRings). rings) _ c.in_err-rings.field-0.0
    (λ bad all s. let inv = c.loop-row.invariant all s in let n = next_ring
    c.args.is_first c.args.rows.now c.row-item.result c.args.tables c.loop-row.rest all
    c.loop-row.row-index s c.loop-row-test.true c.row-item.is inv.1 in
    let name = sym c.in_ok-name.ensures.read.is ∙ c.as_str-in-loop-row.ensures.value
    ∙ named_as_row c.row-item.result n.e n.is in
    let none = c.in_err-rings.ensures.memory (subst (λ (rings : NamedRings). length rings < 16)
    (sym inv.0) n.few) (subst (λ (rings : NamedRings). All (λ (x : List ℕ × RingRecord).
    is_before x.0 c.in_ok-name.name ≡ true) rings) (sym inv.0) (subst (λ (m : List ℕ).
    All (λ (x : List ℕ × RingRecord). is_before x.0 m ≡ true) (take c.loop-row.row-index all))
    (sym name) n.before)) in cc))

pub loop-row-preserved : goal.loop-row-preserved
loop-row-preserved c = λ all s.
    let inv = c.loop-row.invariant all s in
    let n = next_ring c.args.is_first c.args.rows.now c.row-item.result c.args.tables
    c.loop-row.rest all c.loop-row.row-index s c.loop-row-test.true c.row-item.is inv.1 in
    let name = sym c.in_ok-name.ensures.read.is ∙ c.as_str-in-loop-row.ensures.value
    ∙ named_as_row c.row-item.result n.e n.is in
    let parts = c.split.ensures c.args.is_first n.e (drop (c.loop-row.row-index + 1) all) n.by
    (sym (c.as_str.ensures.value ∙ named_as_row c.row-item.result n.e n.is)) n.say in
    let ring = c.in_ok-read_ring.ensures n.e.1 (stands_of c.args.is_first c.row-item.result
    c.split.result.0 n.e parts.0 n.is n.named) in
    let last = c.in_ok-rings.ensures.last (subst (λ (rings : NamedRings).
    All (λ (x : List ℕ × RingRecord). is_before x.0 c.in_ok-name.name ≡ true) rings) (sym inv.0)
    (subst (λ (m : List ℕ). All (λ (x : List ℕ × RingRecord). is_before x.0 m ≡ true)
    (take c.loop-row.row-index all)) (sym name) n.before)) in (
      last ∙ ap (λ (rings : NamedRings). rings ++ (c.in_ok-name.name, c.in_ok-read_ring.field-0) ∷
          []) inv.0
          ∙ ap (λ (m : List ℕ). take c.loop-row.row-index all ++
          (m, c.in_ok-read_ring.field-0) ∷ []) name
          ∙ ap (λ (r : RingRecord). take c.loop-row.row-index all ++ (n.e.0, r) ∷ []) (sym ring)
          ∙ sym n.taken,
      parts.1,
    )

pub returns-then-not-is_empty : goal.returns-then-not-is_empty
returns-then-not-is_empty c = λ all s.
    let empty = c.is_empty.ensures c.args.is_first (none_left c.args.is_first c.args.rows.now
    c.args.tables c.loop-row.rest all c.loop-row.row-index s (omega arith)
    (c.loop-row.invariant all s).1) in
    let none = c.if-not-is_empty.true in
    cc
