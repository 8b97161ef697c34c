use Rattle.std.proofs.lemmas.Result.{err_from_is_err_and}
use Rattle.std.proofs.Common.{rules}
use Rattle.program_stores.specs.Faults.{stream_fault}
use Rattle.file_stores.proofs.FileTexts.{file_fault, read_fault}
use Rattle.file_stores.proofs.reading.read_short.Goals as goal

pub returns-in_err-text-clause-unread : goal.returns-in_err-text-clause-unread
returns-in_err-text-clause-unread g c =
    let p = err_from_is_err_and c.from_residual.result c.from_residual.ensures.1 in
    rw (p.1, p.2) (read_fault g.R.Read.remaining c.args.reader.now c.read_all.new.reader
    c.args.most c.in_err-text.field-0.0 c.in_err-text.ensures.cause)

pub returns-in_err-text-clause-fault : goal.returns-in_err-text-clause-fault
returns-in_err-text-clause-fault g c =
    let p = err_from_is_err_and c.from_residual.result c.from_residual.ensures.1 in
    rw (p.1, p.2) (file_fault g.R.Read.remaining c.args.reader.now c.read_all.new.reader
    c.args.most (stream_fault c.in_err-text.field-0.0)
    (read_fault g.R.Read.remaining c.args.reader.now c.read_all.new.reader c.args.most
    c.in_err-text.field-0.0 c.in_err-text.ensures.cause))

pub returns-clause-text : goal.returns-clause-text
returns-clause-text g c = search rules

pub returns-then-len-most-clause-unread : goal.returns-then-len-most-clause-unread
returns-then-len-most-clause-unread g c = search rules
