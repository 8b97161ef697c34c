use Rattle.std.proofs.Common.{[]}
use Rattle.csv.specs.Records.{fields_of}
use Rattle.csv_import.proofs.Records.{no_header}
use Rattle.csv_import.proofs.read.read_header.Goals as goal
use Rattle.csv_import.proofs.read.read_header.Goals.{else-branch-via-then-branch+else-is_header}
use Rattle.csv_import.proofs.read.read_header.Goals.{else-branch-via-else-branch}

pub returns-else-branch-clause-wrong : goal.returns-else-branch-clause-wrong
returns-else-branch-clause-wrong g c = λ text given.
    no_header g.R.Read.remaining text (fields_of c.read_next.new.fields) c.read_next.new.reader
    c.in_ok-read_next.field-0 (c.in_ok-read_next.ensures.read text [] given)
    (elim c.else-branch.branch [
      | else-branch-via-then-branch+else-is_header w ↦ λ found named. let is =
          w.is_header.ensures.1 named in cc
      | else-branch-via-else-branch w ↦ λ found named. cc
    ])
