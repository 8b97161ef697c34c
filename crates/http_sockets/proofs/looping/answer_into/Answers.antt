use Rattle.std.proofs.Common.{refl}
use Rattle.http_sockets.proofs.Chains.{safe_same, safe_served}
use Rattle.http_sockets.proofs.looping.answer_into.Goals as goal

pub returns-in_err-client-clause-safe : goal.returns-in_err-client-clause-safe
returns-in_err-client-clause-safe g c = safe_same g.K.Keeper g.C.Clock.tells
    c.args.names.prefix.now c.args.names.suffix.now c.args.clock.now c.args.book.now
    c.args.book.now refl

pub returns-in_err-count-clause-safe : goal.returns-in_err-count-clause-safe
returns-in_err-count-clause-safe g c = let one = c.serve_capped-result.ensures.0 in
    safe_served g.K.Keeper g.C.Clock.tells c.args.names.prefix.now c.args.names.suffix.now
    c.args.clock.now c.serve_capped-result.new.clock c.args.book.now
    c.serve_capped-result.new.book one.connection.items one.connection.texts one.serves

pub returns-clause-safe : goal.returns-clause-safe
returns-clause-safe g c = let one = c.serve_capped-result.ensures.0 in
    safe_served g.K.Keeper g.C.Clock.tells c.args.names.prefix.now c.args.names.suffix.now
    c.args.clock.now c.serve_capped-result.new.clock c.args.book.now
    c.serve_capped-result.new.book one.connection.items one.connection.texts one.serves
