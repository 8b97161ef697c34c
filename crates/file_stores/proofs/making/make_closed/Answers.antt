use Rattle.std.proofs.Common.{inl}
use Rattle.file_stores.proofs.MadeClosed.{closed, unclosed}
use Rattle.file_stores.proofs.making.make_closed.Goals as goal

pub returns-in-Ok-clause-made : goal.returns-in-Ok-clause-made
returns-in-Ok-clause-made g c = closed _ _ _ c.in-Ok.keeper c.in-Ok.ensures.made _ _
    c.close_store-answer.ensures.ended

pub returns-in-Ok-clause-unmade : goal.returns-in-Ok-clause-unmade
returns-in-Ok-clause-unmade g c = unclosed _ _ _ c.in-Ok.keeper c.in-Ok.ensures.made _ _ _
    c.close_store-answer.ensures.ended

pub returns-in-Err-clause-unmade : goal.returns-in-Err-clause-unmade
returns-in-Err-clause-unmade g c =
    inl (c.in-Err.left.cause, c.in-Err.left.left, c.in-Err.ensures.unmade)
