use Rattle.std.proofs.Common.{◌∙◌, Err, ap, subst}
use Rattle.ring_words.specs.Spelling.{Reads}
use Rattle.store_rows.specs.OwnTexts.{HavePublishedOwn}
use Rattle.builder_store.proofs.making.judge_rings.Goals as goal

pub returns-in-Err-Bad-clause-foreign : goal.returns-in-Err-Bad-clause-foreign
returns-in-Err-Bad-clause-foreign c = λ _ own. (subst (λ told. Reads {X = Unit {0}}
    (λ _. HavePublishedOwn c.args.rings.now) told) (c.in-Err-Bad.is ∙ ap Err c.in-Err-Bad.field-0-is)
    c.judge_texts.ensures) tt own
