use Rattle.std.proofs.Common.{◌==◌, ◌&&◌, not, rules, tests}
use Rattle.std.proofs.lemmas.Iterator.{YieldsList-from_slice}
use Rattle.std.proofs.lemmas.Iterator.Search.{any_from_yields_List}
use Rattle.ring_words.specs.declared.device.Device.{Device}
use Rattle.ring_model.proofs.parts.has_present.Goals as goal

pub returns : goal.returns
returns c = any_from_yields_List (λ (d : Device). (d.id == c.args.id) && not d.removed) _ _ _
    c.any.ensures.ran (YieldsList-from_slice c.args.devices.now cc) (λ x b q k. search (rules, tests))
