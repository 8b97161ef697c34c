use Rattle.std.proofs.Common.{rules}
use Rattle.std.proofs.Common.{refl}
use Rattle.std.proofs.lemmas.Result.{IfErr-weaker}
use Rattle.byte_streams.specs.Counted.{counted_of}
use Rattle.csv_import.specs.Rows.{IsWrong, records_of}
use Rattle.csv_import.proofs.Records.{read_before}
use Rattle.csv_import.proofs.read.read_rows.Goals as goal

pub returns-clause-cause : goal.returns-clause-cause
returns-clause-cause g c =
    let text = c.as_slice.result.now in
    read_before (records_of text) (counted_of c.args.reader.now)
    (counted_of c.read_all.new.reader) c.rows_from.result
    c.in-Ok.ensures.ok
    (IfErr-weaker c.rows_from.result _ (IsWrong (records_of text)) (λ fault wrong. wrong text refl)
    c.rows_from.ensures.wrong)

pub returns-in-Err : goal.returns-in-Err
returns-in-Err c = search rules

pub returns-in-Err-NoMemory-clause-cause : goal.returns-in-Err-NoMemory-clause-cause
returns-in-Err-NoMemory-clause-cause c = search rules
