use Rattle.std.proofs.Common.{ℕ, ap, sym, ◌∙◌, ◌++◌, ◌∷◌, [], ◌+◌, ◌*◌, get_or, take, arith}
use Rattle.std.proofs.lemmas.List.{append_assoc, take_all}
use Rattle.store_rows.proofs.Places.{seat_more, seats_end}
use Rattle.store_rows.proofs.ring_reading.push_seats.Goals as goal

pub loop-place-preserved : goal.loop-place-preserved
loop-place-preserved c = λ ids is small.
    let more = seat_more c.args.bytes.now ids c.loop-place.place is (omega arith) in
    c.in_ok-push.ensures.items
    ∙ ap (λ ys. ys ++ (c.from-greater.result * 256 + c.from.result) ∷ [])
    (c.loop-place.invariant ids is small)
    ∙ append_assoc c.args.into.now.items (take c.loop-place.place ids)
    ((c.from-greater.result * 256 + c.from.result) ∷ [])
    ∙ ap (λ (k : ℕ). c.args.into.now.items ++ (take c.loop-place.place ids ++
    (k * 256 + c.from.result) ∷ [])) c.from-greater.ensures
    ∙ ap (λ (k : ℕ). c.args.into.now.items ++ (take c.loop-place.place ids ++
    (get_or c.args.bytes.now (2 * c.loop-place.place) 0 * 256 + k) ∷ [])) c.from.ensures
    ∙ ap (λ ys. c.args.into.now.items ++ ys) (sym more)

pub returns : goal.returns
returns c = λ ids is small.
    c.loop-place.invariant ids is small
    ∙ ap (λ ys. c.args.into.now.items ++ ys) (take_all c.loop-place.place ids
    (seats_end c.args.bytes.now ids c.loop-place.place is (omega arith)))
