use Rattle.std.proofs.Common.{◌≡◌, ℕ, length, take, false}
use Rattle.ring_words.specs.Limits.{most_ids}
use Rattle.std.specs.Prelude.{slice_index_or}
use Rattle.ring_model.specs.Ring.{has_device}
use Rattle.ring_model.proofs.parts.known_ids.Given as goal

abbrev pub invariant-loop-device : goal.invariant-loop-device
invariant-loop-device l = record {
  count : length l.known ≡ most_ids;
  marks : (id : ℕ) → slice_index_or l.known id false ≡ has_device id
      (take l.device-index l.devices);
}
