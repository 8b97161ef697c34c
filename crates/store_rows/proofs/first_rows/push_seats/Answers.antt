use Rattle.std.proofs.Common.{◌≡◌, ℕ, map, ap, ◌∙◌, ◌++◌, ◌∷◌, [], get_or, arith, refl}
use Rattle.std.specs.List.{enumerate_from}
use Rattle.std.proofs.lemmas.List.{take_all}
use Rattle.std.proofs.lemmas.List.FromFn.{length-enumerate_from}
use Rattle.store_model.specs.Contents.{seat_of}
use Rattle.store_rows.specs.FirstRows.{seat_entry}
use Rattle.store_rows.proofs.Steps.{placed_step, map_append}
use Rattle.store_rows.proofs.first_rows.push_seats.Goals as goal

pub loop-place-preserved : goal.loop-place-preserved
loop-place-preserved c =
    let n = c.args.name.now in
    let r = c.from-replicas.result in
    let seats = c.seats-seats.result.now in
    placed_step {A = ℕ} (map (seat_entry n r)) (λ x. seat_entry n r x ∷
    []) (λ xs x. map_append (seat_entry n r) xs (x ∷ []))
    seats c.loop-place.place (get_or seats c.loop-place.place 0) 0 c.loop-place-test.true refl
    (map seat_of c.args.into.now.items) (map seat_of c.loop-place.into.items)
    (map seat_of c.push.new.self.items) c.loop-place.invariant
    (ap (map seat_of) c.in_ok-push.ensures.items ∙ map_append seat_of c.loop-place.into.items
    (c.in_ok-seat_row.field-0 ∷ []) ∙ ap (λ x. map seat_of c.loop-place.into.items ++ x ∷
    []) c.in_ok-seat_row.ensures)

pub returns : goal.returns
returns c =
    let n = c.args.name.now in
    let seats = c.seats-seats.result.now in
    let replicas : c.from-replicas.result ≡ c.args.ring.now.replicas =
    c.from-replicas.ensures ∙ (c.get.ensures.value ∙ c.replicas.ensures.value) in
    let count = length-enumerate_from 0 seats in
    c.loop-place.invariant
    ∙ ap (λ es. map seat_of c.args.into.now.items ++ map (seat_entry n c.from-replicas.result) es)
    (take_all c.loop-place.place (enumerate_from 0 seats) (omega arith))
    ∙ ap (λ (k : ℕ). map seat_of c.args.into.now.items ++
    map (seat_entry n k) (enumerate_from 0 seats)) replicas
    ∙ ap (λ xs. map seat_of c.args.into.now.items ++ map (seat_entry n c.args.ring.now.replicas)
    (enumerate_from 0 xs)) c.seats-seats.ensures.value
