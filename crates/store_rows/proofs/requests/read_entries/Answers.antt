use Rattle.store_rows.proofs.BookPages.{page_good, page_read}
use Rattle.store_rows.proofs.requests.read_entries.Goals as goal

pub returns-clause-entries : goal.returns-clause-entries
returns-clause-entries c = λ content from most held small page. page_read content from most
    c.args.rows.now held small page c.read_each.result c.read_each.ensures

pub returns-clause-good : goal.returns-clause-good
returns-clause-good c = λ content from most held small page. page_good content from most
    c.args.rows.now held small page c.read_each.result c.read_each.ensures
