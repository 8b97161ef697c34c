use Rattle.std.proofs.Common.{ℕ, ◌^◌, Global, Vec, map, map-id, subst, ◌∙◌, arith}
use Rattle.std.proofs.lemmas.Result.{err_from_is_err_and}
use Rattle.std.specs.Rc.{rc_str_bytes}
use Rattle.std.specs.declared.rc.RcStr.{RcStr}
use Rattle.ring_model.specs.Parts.{record_of}
use Rattle.ring_words.specs.declared.device.Device.{Device}
use Rattle.store_rows.specs.Inner.Found.{StandForPlaces}
use Rattle.store_rows.specs.declared.ring_reading.Assignment.{Assignment}
use Rattle.store_rows.proofs.Reading.{fails_likewise, number_read, one_number, reads_likewise}
use Rattle.store_rows.proofs.RingParts.{devices_zip, one_power, places_of, texts_zip, value_of}
use Rattle.store_rows.proofs.ring_reading.read_ring_parts.Goals as goal

pub returns-in_err-assignment : goal.returns-in_err-assignment
returns-in_err-assignment c =
    let r = c.from_residual-in_err-assignment in
    let p = err_from_is_err_and r.result r.ensures.1 in
    rw (p.1, p.2) (fails_likewise (λ (a : Assignment). (a.seats.items, a.moved.items)) _ record_of _
    c.in_err-assignment.field-0.0 c.in_err-assignment.ensures
    (λ ring s. (
      (ring.seats, ring.moved),
      subst (λ (n : ℕ). StandForPlaces c.args.is_first
          c.args.tables.now (2 ^ n) (ring.seats, ring.moved))
          (one_power c.args.row.now s.name ring c.in_ok-power.power s.is s.proper.valid
          c.in_ok-power.ensures.0)
          (places_of c.args.is_first c.args.row.now c.args.tables.now ring s),
    )))

pub returns-in_err-number16 : goal.returns-in_err-number16
returns-in_err-number16 c =
    let r = c.from_residual-in_err-number16 in
    let p = err_from_is_err_and r.result r.ensures.1 in
    rw (p.1, p.2) (reads_likewise _ record_of _ c.in_err-number16.field-0.0
    c.in_err-number16.ensures (λ ring s. let few = s.proper.valid.min_hours in (
      ring.min_hours,
      (
        number_read ring.min_hours c.args.row.now.min_hours
            (value_of c.args.row.now s.name ring (λ v. v.min_hours) s.is) (omega arith),
        omega arith,
      ),
    )))

pub returns-in_err-number32 : goal.returns-in_err-number32
returns-in_err-number32 c =
    let r = c.from_residual-in_err-number32 in
    let p = err_from_is_err_and r.result r.ensures.1 in
    rw (p.1, p.2) (reads_likewise _ record_of _ c.in_err-number32.field-0.0
    c.in_err-number32.ensures (λ ring s. let few = s.proper.valid.next_id in (
      ring.next_id,
      (
        number_read ring.next_id c.args.row.now.next_id
            (value_of c.args.row.now s.name ring (λ v. v.next_id) s.is) (omega arith),
        omega arith,
      ),
    )))

pub returns-in_err-number32-2 : goal.returns-in_err-number32-2
returns-in_err-number32-2 c =
    let r = c.from_residual-in_err-number32-2 in
    let p = err_from_is_err_and r.result r.ensures.1 in
    rw (p.1, p.2) (reads_likewise _ record_of _ c.in_err-number32-2.field-0.0
    c.in_err-number32-2.ensures (λ ring s. let few = s.proper.valid.version in (
      ring.version,
      (
        number_read ring.version c.args.row.now.version
            (value_of c.args.row.now s.name ring (λ v. v.version) s.is) (omega arith),
        omega arith,
      ),
    )))

pub returns-in_err-read_each : goal.returns-in_err-read_each
returns-in_err-read_each c =
    let r = c.from_residual-in_err-read_each in
    let p = err_from_is_err_and r.result r.ensures.1 in
    rw (p.1, p.2) (fails_likewise (λ (ds : Vec Device Global). map (λ (d : Device). d) ds.items) _
    record_of _ c.in_err-read_each.field-0.0 c.in_err-read_each.ensures
    (λ ring s. (ring.devices, devices_zip c.args.is_first c.args.row.now c.args.tables.now ring s)))

pub returns-in_err-read_each-2 : goal.returns-in_err-read_each-2
returns-in_err-read_each-2 c =
    let r = c.from_residual-in_err-read_each-2 in
    let p = err_from_is_err_and r.result r.ensures.1 in
    rw (p.1, p.2) (fails_likewise (λ (ts : Vec (ℕ × RcStr Global) Global).
    map (λ (t : ℕ × RcStr Global). (t.0, rc_str_bytes t.1)) ts.items) _
    record_of _ c.in_err-read_each-2.field-0.0 c.in_err-read_each-2.ensures
    (λ ring s. (ring.published, texts_zip c.args.is_first c.args.row.now c.args.tables.now ring s)))

pub returns : goal.returns
returns c = λ ring s.
    let valid = s.proper.valid in
    let row = c.args.row.now in
    let power = one_power row s.name ring c.in_ok-power.power s.is valid c.in_ok-power.ensures.0 in
    let replicas = one_number ring.replicas c.in_ok-replicas.replicas row.replicas
    (value_of row s.name ring (λ v. v.replicas) s.is)
    (let few = valid.replicas.1 in omega arith) c.in_ok-replicas.ensures.0 in
    let places = c.in_ok-assignment.ensures (ring.seats, ring.moved) (subst (λ (n : ℕ).
    StandForPlaces c.args.is_first c.args.tables.now (2 ^ n) (ring.seats, ring.moved)) power
    (places_of c.args.is_first row c.args.tables.now ring s)) in
    let min_hours = one_number ring.min_hours c.in_ok-number16.field-0 row.min_hours
    (value_of row s.name ring (λ v. v.min_hours) s.is)
    (let few = valid.min_hours in omega arith) c.in_ok-number16.ensures.0 in
    let next_id = one_number ring.next_id c.in_ok-number32.field-0 row.next_id
    (value_of row s.name ring (λ v. v.next_id) s.is)
    (let few = valid.next_id in omega arith) c.in_ok-number32.ensures.0 in
    let version = one_number ring.version c.in_ok-number32-2.field-0 row.version
    (value_of row s.name ring (λ v. v.version) s.is)
    (let few = valid.version in omega arith) c.in_ok-number32-2.ensures.0 in
    let devices = c.in_ok-read_each.ensures ring.devices
    (devices_zip c.args.is_first row c.args.tables.now ring s)
    ∙ map-id c.in_ok-read_each.field-0.items in
    let published = c.in_ok-read_each-2.ensures ring.published
    (texts_zip c.args.is_first row c.args.tables.now ring s) in
    λ i. record {
      power = power i;
      replicas = replicas i;
      min_hours = min_hours i;
      next_id = next_id i;
      version = version i;
      devices = devices i;
      seats = (places i).0;
      moved = (places i).1;
      published = published i;
    }
