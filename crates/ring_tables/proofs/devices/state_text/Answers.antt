use Rattle.std.proofs.Common.{rules}
use Rattle.ring_tables.proofs.devices.state_text.Goals as goal

pub returns-then-device : goal.returns-then-device
returns-then-device c = search rules

pub returns-then-hundredths-eq0 : goal.returns-then-hundredths-eq0
returns-then-hundredths-eq0 c = search rules
