use Rattle.std.proofs.Common.{◌∙◌, Err, Ok, rules, ℕ}
use Rattle.std.specs.Prelude.{Vec}
use Rattle.std.specs.declared.alloc.Global.{Global}
use Rattle.ring_book.specs.Book.{Found}
use Rattle.ring_book.proofs.Holdings.{log_as}
use Rattle.ring_book.proofs.asking.read_log.Goals as goal

pub returns-in-Ok-clause-told : goal.returns-in-Ok-clause-told
returns-in-Ok-clause-told g c =
    let old = c.args.book.now in
    let new = c.entries.new.self in (
      Ok tt,
      search rules,
      λ clock prefix suffix. log_as (Found g.K.Keeper clock old new) prefix suffix c.args.from
          c.args.most c.deref.result.now c.log_bytes.result (λ (bytes : Vec ℕ Global). bytes.items)
          (λ sound. c.deref.ensures.value ∙ c.in-Ok.ensures.entries sound) c.log_bytes.ensures.told,
    )

pub returns-in-Err-clause-told : goal.returns-in-Err-clause-told
returns-in-Err-clause-told g c = (
  Err c.in-Err.fault,
  search rules,
  λ clock prefix suffix. search rules,
)
