-- The ring that parts make, if they make one.
use Rattle.std.specs.Prelude.{ℕ, List, map}
use Rattle.std.specs.Rc.{rc_str_bytes}
use Rattle.std.specs.declared.rc.RcStr.{RcStr}
use Rattle.std.specs.declared.alloc.Global.{Global}
use Rattle.ring_model.specs.Ring.{RingRecord}
use Rattle.ring_model.specs.declared.parts.RingParts.{RingParts}

-- texts under versions, each as its bytes
abbrev pub texts_of : List (ℕ × RcStr Global) → List (ℕ × List ℕ)
texts_of published = map (λ e. (e.0, rc_str_bytes e.1)) published

-- the ring that parts make
abbrev pub record_of : RingParts → RingRecord
record_of parts = record {
  power = parts.power;
  replicas = parts.replicas;
  min_hours = parts.min_hours;
  next_id = parts.next_id;
  version = parts.version;
  devices = parts.devices.items;
  seats = parts.seats.items;
  moved = parts.moved.items;
  published = texts_of parts.published.items;
}
