use Rattle.std.proofs.Common.{◌∙◌, List, ℕ, ap, get_or, length}
use Rattle.std.proofs.lemmas.List.{length-replicate}
use Rattle.std.proofs.lemmas.Result.{IfOk-weaker}
use Rattle.ring_reads.proofs.SeatCounting.{zeros}
use Rattle.ring_reads.proofs.seat_counts.no_counts.Goals as goal

pub returns-clause-long : goal.returns-clause-long
returns-clause-long c = IfOk-weaker c.vec.result _ _
    (λ counts is. ap (λ (items : List ℕ). length items) (is (λ y same. same))
    ∙ length-replicate c.args.count 0)
    c.vec.ensures.items_if_clones_equal

pub returns-clause-zero : goal.returns-clause-zero
returns-clause-zero c = IfOk-weaker c.vec.result _ _
    (λ counts is id. ap (λ (items : List ℕ). get_or items id 0) (is (λ y same. same))
    ∙ zeros c.args.count id)
    c.vec.ensures.items_if_clones_equal
