use Rattle.std.proofs.Common.{arith}
use Rattle.std.specs.FinMap.{entries}
use Rattle.store_tables.specs.Contents.{contents_of}
use Rattle.store_tables.specs.Entries.{request_rows}
use Rattle.store_tables.specs.Inner.Texts.{list_request}
use Rattle.store_tables.proofs.Reading.{is_listed, lists_past, lists_so, more_is}
use Rattle.store_tables.proofs.Tables.Facts.{request_at, more}
use Rattle.store_tables.proofs.Tables.Lists.{request_lists}
use Rattle.store_tables.proofs.reads.RequestRowListed.query.Goals as goal

pub returns : goal.returns
returns c = λ made after. lists_past 7 list_request request_rows (λ c. entries c.requests)
    (λ n. lists_so (more 7 n) request_rows (request_at n) list_request (request_lists n)
    (λ c. entries c.requests) (λ trees. is_listed 6 (more 7 n) (contents_of trees).requests
    (omega (arith, more_is 7 n)))) made (omega (arith, after))
