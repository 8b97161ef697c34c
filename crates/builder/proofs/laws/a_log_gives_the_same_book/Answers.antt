use Rattle.builder.proofs.Replays.{replay, replay_only}
use Rattle.builder.proofs.laws.a_log_gives_the_same_book.Goals as goal

pub returns-clause-may : goal.returns-clause-may
returns-clause-may c = replay

pub returns-clause-only : goal.returns-clause-only
returns-clause-only c = λ limits limit old new after runs others lives empty room. replay_only limits
    limit old new runs lives empty room after others
