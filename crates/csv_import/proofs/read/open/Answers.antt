use Rattle.std.proofs.Common.{◌∙◌, sym, refl, ap, inr}
use Rattle.std.specs.Option.{option_map}
use Rattle.csv.specs.Reading.{Reached, strip_bom}
use Rattle.csv_import.proofs.read.open.Goals as goal

pub returns-clause-open : goal.returns-clause-open
returns-clause-open g c =
    let made = c.from_reader.ensures in (
      rw (c.flexible.ensures, c.has_headers.ensures) at made.trim ∙ c.new.ensures.trim,
      inr (inr (
        rw (c.flexible.ensures, c.has_headers.ensures) at made.has_headers,
        made.headers,
      )),
      rw c.flexible.ensures at made.flexible,
    )

pub returns-clause-given : goal.returns-clause-given
unfolding Reached
returns-clause-given g c = λ text known.
    let made = c.from_reader.ensures in
    record {
      config = rw (c.flexible.ensures, c.has_headers.ensures) at made.config ∙ c.new.ensures.config;
      rest = strip_bom text;
      source = made.source ∙ ap (option_map strip_bom) known;
      reached = (sym made.state, refl);
    }
