use Rattle.sqlite.proofs.Callers.{memory_is_clean}
use Rattle.std.proofs.Common.{rules}
use Rattle.store_tables.proofs.Failing.{memory_fails_not}
use Rattle.store_tables.proofs.opening.first_tables.Goals as goal

pub returns-clause-schema : goal.returns-clause-schema
returns-clause-schema c = c.in_ok-make_first.ensures.schema (memory_is_clean c.make_first.new.conn)

pub returns-in_err-make_first-clause-unfailed : goal.returns-in_err-make_first-clause-unfailed
returns-in_err-make_first-clause-unfailed c =
    let never = memory_fails_not c.in_ok-conn.conn c.make_first.new.conn c.make_first.result
    c.in_ok-conn.ensures.empty.0.is_open c.make_first.ensures.cause in
    search (rules, never)
