use Rattle.std.proofs.Common.{sym, ◌∙◌}
use Rattle.store_rows.proofs.Reading.{one_device}
use Rattle.store_rows.proofs.row_reading.DeviceRowReadable.read.Goals as goal

pub returns : goal.returns
returns c = λ v s.
    one_device c.args.self.now s.ring v _ s.is s.id s.proper c.in_ok-number16.ensures.0
    c.in_ok-number16-2.ensures.0 c.in_ok-number16-3.ensures.0
    (sym c.as_str.ensures.value ∙ c.in_ok-read_address.ensures.read.is)
    c.in_ok-read_address.ensures.read.valid c.in_ok-bounded.ensures.0
    (sym c.as_str-2.ensures.value ∙ c.in_ok-read_name.ensures.read.is) c.in_ok-weight.ensures.0
    c.in_ok-mark.ensures
