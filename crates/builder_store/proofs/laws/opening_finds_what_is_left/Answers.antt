use Rattle.builder_store.specs.Inner.Finding.{stands_opens}
use Rattle.builder_store.proofs.Finds.{made_opened, made_opens, opened_once}
use Rattle.builder_store.proofs.laws.opening_finds_what_is_left.Goals as goal

pub returns-clause-opens : goal.returns-clause-opens
returns-clause-opens c = stands_opens

pub returns-clause-only : goal.returns-clause-only
returns-clause-only c = opened_once c.one_content.ensures c.one_first_content.ensures

pub returns-clause-made : goal.returns-clause-made
returns-clause-made c = λ old db content made. (
  made_opened c.one_content.ensures old db content made,
  made_opens c.one_content.ensures c.one_first_content.ensures old db content made,
)
