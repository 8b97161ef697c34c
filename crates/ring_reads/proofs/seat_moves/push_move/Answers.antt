use Rattle.std.proofs.Common.{◌≡◌, ◌∙◌, false, true, append-nil, sym}
use Rattle.ring_place.specs.Rebalance.{differs}
use Rattle.ring_reads.proofs.seat_moves.push_move.Goals as goal

pub returns-then-not-differ : goal.returns-then-not-differ
returns-then-not-differ c =
    let same : differs c.args.one.from c.args.one.to ≡ false =
    sym c.differ.ensures ∙ c.if-not-differ.true in
    rw same (sym (append-nil c.args.into.now.items))

pub returns : goal.returns
returns c =
    let other : differs c.args.one.from c.args.one.to ≡ true =
    sym c.differ.ensures ∙ c.if-not-differ.false in
    rw other c.in_ok-push.ensures.items
