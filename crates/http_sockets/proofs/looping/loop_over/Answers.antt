use Rattle.std.proofs.lemmas.Grind.{common_steps}
use Rattle.std.proofs.Common.{arith, refl}
use Rattle.std.proofs.lemmas.List.{length-take}
use Rattle.std.proofs.lemmas.Result.{err_from_is_err_and}
use Rattle.http_messages.specs.declared.audience.Audience.TheVariants.{Anyone}
use Rattle.http_sockets.proofs.Chains.{fails_by, safe_same}
use Rattle.http_sockets.specs.Connections.{IsTalk}
use Rattle.http_sockets.proofs.looping.loop_over.Goals as goal

pub returns-in_err-room-clause-safe : goal.returns-in_err-room-clause-safe
returns-in_err-room-clause-safe g c = safe_same g.K.Keeper g.C.Clock.tells c.args.names.prefix.now
    c.args.names.suffix.now c.args.clock.now c.args.book.now c.args.book.now refl

pub returns-in_err-count-clause-failed : goal.returns-in_err-count-clause-failed
returns-in_err-count-clause-failed g c =
    let failed = c.in_err-count.ensures.failed in
    let told = err_from_is_err_and c.from_residual-in_err-count.result
    c.from_residual-in_err-count.ensures.1 in
    rw (told.1, told.2, failed.0) (refl, failed.1)

pub returns-in_err-result-clause-failed : goal.returns-in_err-result-clause-failed
returns-in_err-result-clause-failed g c =
    let ended = rw c.in_err-result.was at c.in_ok-count.ensures.served in
    let told = err_from_is_err_and c.from_residual-in_err-result.result
    c.from_residual-in_err-result.ensures.1 in
    rw (told.1, told.2) (fails_by g.K.Keeper g.C.Clock.tells c.args.names.prefix.now
    c.args.names.suffix.now (IsTalk Anyone g.R.Stream.Read.remaining g.R.Stream.Write.contents)
    (c.args.clock.now, c.args.book.now) (c.answer_into.new.clock, c.answer_into.new.book) _ _ _
    ended c.in_ok-write_few.ensures.cause)

pub returns-clause-served : goal.returns-clause-served
returns-clause-served g c = rw c.in_ok-result.was at c.in_ok-count.ensures.served

pub returns-in_err-count-clause-safe : goal.returns-in_err-count-clause-safe
returns-in_err-count-clause-safe g c = c.answer_into.ensures.safe

pub returns-in_err-write_few-clause-safe : goal.returns-in_err-write_few-clause-safe
returns-in_err-write_few-clause-safe g c = c.answer_into.ensures.safe

pub returns-in_err-result-clause-safe : goal.returns-in_err-result-clause-safe
returns-in_err-result-clause-safe g c = c.answer_into.ensures.safe

pub returns-clause-safe : goal.returns-clause-safe
returns-clause-safe g c = c.answer_into.ensures.safe

pub write_few-requires : goal.write_few-requires
write_few-requires g c = omega (
  arith,
  length-take c.in_ok-count.count c.deref.result.now,
  c.in_ok-count.ensures.bound,
  c.answer_into.ensures.same,
  c.deref_mut.ensures.len,
  c.in_ok-room.ensures.len,
)

pub returns-in_err-count-clause-served : goal.returns-in_err-count-clause-served
returns-in_err-count-clause-served g c = grind (arith, common_steps)

pub returns-in_err-count-clause-ok : goal.returns-in_err-count-clause-ok
returns-in_err-count-clause-ok g c = grind (arith, common_steps)

pub returns-in_err-count-clause-flushed : goal.returns-in_err-count-clause-flushed
returns-in_err-count-clause-flushed g c = grind (arith, common_steps)
