-- The devices of one more number.
use Rattle.std.proofs.Common.{◌≡◌, ◌<◌, ◌+◌, ◌∙◌, ℕ, List, [], ◌∷◌, ◌++◌, length, take, get_or}
use Rattle.std.proofs.Common.{ap, Some, None, refl}
use Rattle.std.specs.Prelude.{◌==◌, find}
use Rattle.std.proofs.lemmas.List.{take_more}
use Rattle.std.proofs.lemmas.List.Elements.{filter_map-append}
use Rattle.ring_model.specs.Ring.{RingRecord}
use Rattle.ring_words.specs.declared.device.Device.{Device}
use Rattle.ring_reads.specs.Nodes.{devices_of}

pub one_found : (ring : RingRecord) (id : ℕ) (device : Device)
    → find (λ d. d.id == id) ring.devices ≡ Some device → device ∷ [] ≡ devices_of ring (id ∷ [])
one_found ring id device e = rw e refl

pub none_found : (ring : RingRecord) (id : ℕ) → find (λ d. d.id == id) ring.devices ≡ None
    → [] ≡ devices_of ring (id ∷ [])
none_found ring id e = rw e refl

-- the devices of the numbers so far, and that of one more
pub devices_more : (ring : RingRecord) (ids : List ℕ) (i : ℕ) → i < length ids
    → devices_of ring (take (i + 1) ids)
    ≡ devices_of ring (take i ids) ++ devices_of ring (get_or ids i 0 ∷ [])
devices_more ring ids i lt =
    ap (devices_of ring) (take_more ids i 0 lt)
    ∙ filter_map-append (λ id. find (λ d. d.id == id) ring.devices) (take i ids)
    (get_or ids i 0 ∷ [])
