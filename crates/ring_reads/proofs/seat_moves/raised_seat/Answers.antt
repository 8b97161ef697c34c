use Rattle.std.proofs.Common.{◌≡◌, ◌∙◌, ◌+◌, ◌-◌, ◌*◌, ◌/◌, ◌^◌, ◌<◌, ◌≤◌, ℕ, List, ap, arith, refl, sym}
use Rattle.std.specs.Prelude.{slice_get}
use Rattle.std.proofs.lemmas.Bool.{le-ltb, lt-ltb}
use Rattle.ring_reads.specs.SeatMoves.{raised_seat}
use Rattle.ring_reads.proofs.seat_moves.raised_seat.Goals as goal

pub returns-then-replica-replicas : goal.returns-then-replica-replicas
returns-then-replica-replicas c =
    let width : c.get-replicas.result ≡ c.args.ring.now.replicas =
    c.get-replicas.ensures.value ∙ c.replicas.ensures in
    let past : c.args.ring.now.replicas ≤ c.args.replica =
    omega (arith, width, c.if-replica-replicas.true) in
    rw (le-ltb c.args.replica c.args.ring.now.replicas past) refl

pub returns : goal.returns
returns c =
    let ring = c.args.ring.now in
    let power = c.args.power in
    let replica = c.args.replica in
    let own = c.args.partition / 2 ^ (power - ring.power) in
    let width : c.get-replicas.result ≡ ring.replicas =
    c.get-replicas.ensures.value ∙ c.replicas.ensures in
    let parent : c.parent_of-parent.result ≡ own = c.parent_of-parent.ensures
    ∙ ap (λ (n : ℕ). c.args.partition / 2 ^ (power - n)) c.power.ensures in
    let place : c.place_of.result ≡ own * ring.replicas + replica = c.place_of.ensures
    ∙ ap (λ (n : ℕ). n * c.get-replicas.result + replica) parent
    ∙ ap (λ (n : ℕ). own * n + replica) width in
    let found : c.seat_at.result ≡ slice_get ring.seats (own * ring.replicas + replica) =
    c.seat_at.ensures
    ∙ ap (λ (seats : List ℕ). slice_get seats c.place_of.result) c.seats-seats.ensures.value
    ∙ ap (slice_get ring.seats) place in
    let below : replica < ring.replicas = omega (arith, width, c.if-replica-replicas.false) in
    let there : raised_seat ring power c.args.partition replica
    ≡ slice_get ring.seats (own * ring.replicas + replica) =
    rw (lt-ltb replica ring.replicas below) refl in
    found ∙ sym there
