use Rattle.std.proofs.Common.{◌≡◌, ◌≤◌, take, count_by}
use Rattle.ring_share.specs.Crowd.{is_on, tiers_of, others, row_of}
use Rattle.ring_share.proofs.crowds.crowd.Given as goal

-- the counts of the seats so far
abbrev pub invariant-loop-other : goal.invariant-loop-other
invariant-loop-other l = record {
  region : l.region ≡ count_by (is_on ((tiers_of l.ring.devices).region l.device))
      (take l.other (others (row_of l.ring l.partition) l.replica));
  zone : l.zone ≡ count_by (is_on ((tiers_of l.ring.devices).zone l.device))
      (take l.other (others (row_of l.ring l.partition) l.replica));
  server : l.server ≡ count_by (is_on ((tiers_of l.ring.devices).server l.device))
      (take l.other (others (row_of l.ring l.partition) l.replica));
  regions : l.region ≤ l.other;
  zones : l.zone ≤ l.other;
  servers : l.server ≤ l.other;
}
