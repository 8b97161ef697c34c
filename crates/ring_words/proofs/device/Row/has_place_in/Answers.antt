use Rattle.std.proofs.Common.{rules, tests}
use Rattle.std.proofs.lemmas.Iterator.{YieldsList-from_slice}
use Rattle.std.proofs.lemmas.Iterator.Search.{any_from_yields_List}
use Rattle.ring_words.specs.Rows.{same_place}
use Rattle.ring_words.specs.declared.device.Device.{Device}
use Rattle.ring_words.proofs.device.Row.has_place_in.Goals as goal

pub returns : goal.returns
returns c = any_from_yields_List (λ (d : Device). same_place d.row c.args.self.now) _ _ _
    c.any.ensures.ran (YieldsList-from_slice c.args.devices.now cc) (λ x b q k. search (rules, tests))
