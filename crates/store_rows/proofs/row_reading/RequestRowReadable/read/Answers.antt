use Rattle.std.proofs.lemmas.Result.{err_from_is_err_and}
use Rattle.store_rows.proofs.BookPages.{no_place, one_read}
use Rattle.store_rows.proofs.row_reading.RequestRowReadable.read.Goals as goal

pub returns : goal.returns
returns c = one_read c.one_text.ensures c.one_reply.ensures c.args.self.now c.in_ok-place.place
    c.read_request.result c.in_ok-place.ensures.0 c.read_request.ensures

pub returns-in_err-place : goal.returns-in_err-place
returns-in_err-place c =
    let p = err_from_is_err_and c.from_residual.result c.from_residual.ensures.1 in
    rw (p.1, p.2) (no_place c.one_text.ensures c.one_reply.ensures c.args.self.now
    c.in_err-place.field-0.0 c.in_err-place.ensures)
