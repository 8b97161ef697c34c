use Rattle.std.proofs.Common.{◌≡◌, ◌∙◌, rules}
use Rattle.builder_store.specs.Inner.Faults.{opening_fault, reading_fault}
use Rattle.builder_store.proofs.adopting.reading_fault.Goals as goal

pub returns-in_default-clause-which : goal.returns-in_default-clause-which
returns-in_default-clause-which c =
    let same : opening_fault c.args.error.now ≡ reading_fault c.args.error.now = search rules in
    c.fault_of.ensures.which ∙ same

pub returns-in_default-clause-texts : goal.returns-in_default-clause-texts
returns-in_default-clause-texts c = search rules

pub returns-in_default-clause-unjudged : goal.returns-in_default-clause-unjudged
returns-in_default-clause-unjudged c = λ e. absurd (c.fault_of.ensures.unjudged e)
