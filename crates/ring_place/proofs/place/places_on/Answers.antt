use Rattle.std.proofs.Common.{ap, count_by, ◌∙◌}
use Rattle.ring_share.specs.Crowd.{is_on}
use Rattle.ring_room.proofs.Searching.RowDevices.{count_taken}
use Rattle.ring_place.proofs.place.places_on.Goals as goal

pub returns-clause-places : goal.returns-clause-places
returns-clause-places c = record {
  within = c.places_on.ensures.within;
  alike = λ test. ap (count_by (is_on test)) c.places_on.ensures.by_name ∙ count_taken test
      c.args.row.now;
}
