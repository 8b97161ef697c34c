use Rattle.std.proofs.Common.{◌∙◌, ap, sym}
use Rattle.std.specs.Prelude.{slice_get}
use Rattle.ring_place.specs.declared.place.Turn.TheVariants.{Home}
use Rattle.ring_place.specs.Inner.Placing.{Puts}
use Rattle.ring_place.specs.Made.{Placing}
use Rattle.ring_place.proofs.Placing.ByName.{first_put, kept_put}
use Rattle.ring_place.proofs.place.take_turn.Goals as goal

pub returns-then-not-keeps_home-clause-put : goal.returns-then-not-keeps_home-clause-put
returns-then-not-keeps_home-clause-put c = Puts c.in-Some.replica
    (ap (λ r. slice_get r c.in-Some.replica) (sym c.row.ensures) ∙ c.in-Some.ensures.empty)
    c.place_seat.ensures.put

pub returns-then-keeps_home-clause-put : goal.returns-then-keeps_home-clause-put
returns-then-keeps_home-clause-put c = rw c.in-Home.is c.return_seat.ensures.put

pub returns-then-keeps_home-clause-by_name : goal.returns-then-keeps_home-clause-by_name
returns-then-keeps_home-clause-by_name c =
    let now : Placing = record {
      load = c.args.room.now;
      rows = c.args.seats.now;
      deck = c.args.deck.now;
    } in
    rw c.in-Home.is (first_put Home c.args.keeps_home c.args.old.now c.args.partition
    c.in-Some.replica now _ c.row.result.now c.row.ensures c.in-Some.ensures.by_name
    (kept_put c.args.keeps_home c.args.old.now c.args.partition c.in-Some.replica now _
    c.if-keeps_home.true (c.return_seat.ensures.by_name c.args.deck.now)))

pub returns-in-Rest-clause-put : goal.returns-in-Rest-clause-put
returns-in-Rest-clause-put c = Puts c.in-Some.replica
    (ap (λ r. slice_get r c.in-Some.replica) (sym c.row.ensures) ∙ c.in-Some.ensures.empty)
    c.place_seat-in-Rest.ensures.put
