use Rattle.std.proofs.Common.{ℕ}
use Rattle.std.proofs.lemmas.Result.{err_from_is_err_and}
use Rattle.serde_json.specs.View.{view}
use Rattle.ring_words.specs.declared.command.Deed.TheVariants as deed
use Rattle.ring_words.specs.declared.command.Kind.TheVariants.{Import, Rebalance, RebalanceAs}
use Rattle.ring_messages.specs.Inner.Says.{HasFields}
use Rattle.ring_messages.specs.Replies.{deed_fields, figures}
use Rattle.ring_messages.proofs.Deeds.{of_import, of_rebalance, of_rebalance_as, part_bad}
use Rattle.ring_messages.proofs.words.deed_of.Goals as goal

pub returns-in_err-balance-in-Rebalance : goal.returns-in_err-balance-in-Rebalance
returns-in_err-balance-in-Rebalance c =
    let d = view c.args.value.now in
    let r = c.from_residual-in_err-balance-in-Rebalance in
    let p = err_from_is_err_and r.result r.ensures.1 in
    rw (p.1, p.2)
    (part_bad (λ (f : ℕ × ℕ × ℕ). HasFields d (figures f.0 f.1 f.2)) d Rebalance
    c.in_err-balance-in-Rebalance.field-0.0 (rw c.in-Rebalance.is at c.requires.word)
    c.in_err-balance-in-Rebalance.ensures (of_rebalance d))

pub returns-in_err-balance-in-RebalanceAs : goal.returns-in_err-balance-in-RebalanceAs
returns-in_err-balance-in-RebalanceAs c =
    let d = view c.args.value.now in
    let r = c.from_residual-in_err-balance-in-RebalanceAs in
    let p = err_from_is_err_and r.result r.ensures.1 in
    rw (p.1, p.2)
    (part_bad (λ (f : ℕ × ℕ × ℕ). HasFields d (figures f.0 f.1 f.2)) d RebalanceAs
    c.in_err-balance-in-RebalanceAs.field-0.0 (rw c.in-RebalanceAs.is at c.requires.word)
    c.in_err-balance-in-RebalanceAs.ensures (of_rebalance_as d))

pub returns-in_err-added-in-Import : goal.returns-in_err-added-in-Import
returns-in_err-added-in-Import c =
    let d = view c.args.value.now in
    let r = c.from_residual-in_err-added-in-Import in
    let p = err_from_is_err_and r.result r.ensures.1 in
    rw (p.1, p.2)
    (part_bad (λ (n : ℕ × ℕ). HasFields d (deed_fields (deed.Import n.0 n.1))) d Import
    c.in_err-added-in-Import.field-0.0 (rw c.in-Import.is at c.requires.word)
    c.in_err-added-in-Import.ensures (of_import d))
