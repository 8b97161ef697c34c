use Rattle.std.proofs.Common.{rules}
use Rattle.programs.proofs.book.open_book.Goals as goal

pub returns : goal.returns
returns g c = record {
  full = record {
    rings = search rules;
    devices = search rules;
    ids = search rules;
    versions = search rules;
    numbers = search rules;
  };
  keeper = search rules;
}
