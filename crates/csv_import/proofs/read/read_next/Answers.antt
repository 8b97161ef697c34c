use Rattle.std.proofs.Common.{◌∙◌, inl}
use Rattle.csv.specs.Reading.{error_kind}
use Rattle.csv.specs.Records.{fields_of}
use Rattle.csv_import.proofs.Records.{next_given, stopped}
use Rattle.csv_import.proofs.read.read_next.Goals as goal

pub cause_of-requires : goal.cause_of-requires
cause_of-requires g c = stopped g.R.Read.remaining c.args.reader.now c.read_byte_record.new.self
    (error_kind c.in-Err.error) c.requires.2 (c.in-Err.ensures.why c.requires.1)

pub returns-in-Ok-clause-open : goal.returns-in-Ok-clause-open
returns-in-Ok-clause-open g c =
    let read = c.in-Ok.ensures.reads c.requires.0 c.requires.1 in (
      read.3 ∙ c.requires.0,
      inl (c.in-Ok.ensures.ready c.requires.0),
      c.in-Ok.ensures.flexible ∙ c.requires.2,
    )

pub returns-in-Ok-clause-read : goal.returns-in-Ok-clause-read
returns-in-Ok-clause-read g c = λ text given h.
    next_given g.R.Read.remaining text given c.args.reader.now c.read_byte_record.new.self
    c.in-Ok.found (fields_of c.read_byte_record.new.row) h (c.in-Ok.ensures.reads c.requires.0
    c.requires.1)
