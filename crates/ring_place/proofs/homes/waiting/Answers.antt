use Rattle.std.proofs.Common.{◌≡◌, ◌<◌, ◌∙◌, ℕ, All, IfOk, Some, ap, length, map, subst, sym}
use Rattle.std.specs.List.{flat_map, range_with_len}
use Rattle.ring_place.specs.Inner.Placing.{numbered}
use Rattle.ring_place.specs.Made.{heap_rank, row_at, with_empty}
use Rattle.ring_place.proofs.Placing.Homes.{if_ok_told}
use Rattle.ring_place.proofs.Placing.Waiting.{empty_below}
use Rattle.ring_place.proofs.homes.waiting.Goals as goal

pub heap_ranks-requires-clause-partitions : goal.heap_ranks-requires-clause-partitions
heap_ranks-requires-clause-partitions c = subst (λ order. All (λ p. p < length c.args.seats.now)
    order) (sym (c.deref.ensures.value ∙ c.in_ok-partitions.ensures))
    (empty_below c.args.order.now c.args.seats.now c.requires.order)

pub returns : goal.returns
returns c =
    let room = c.args.room.now in
    let rows = c.args.seats.now in
    let number = λ (p : ℕ). Some (heap_rank room (row_at rows p)) in
    let order : c.deref.result.now ≡ with_empty c.args.order.now rows =
    c.deref.ensures.value ∙ c.in_ok-partitions.ensures in
    if_ok_told number (with_empty c.args.order.now rows) c.deref-3.result.now c.by_number.result
    (c.deref-3.ensures.value ∙ c.in_ok-ranks.ensures ∙ ap (map number) order)
    (subst (λ ps. IfOk c.by_number.result (λ list. list.items ≡ flat_map
    (numbered ps c.deref-3.result.now) (range_with_len 0 11)))
    (c.deref-2.ensures.value ∙ c.in_ok-partitions.ensures) c.by_number.ensures)
