use Rattle.std.proofs.Common.{rules, tests}
use Rattle.std.proofs.lemmas.Iterator.{YieldsList-from_slice}
use Rattle.std.proofs.lemmas.Iterator.Search.{find_from_yields_List}
use Rattle.ring_words.specs.Rows.{same_place}
use Rattle.ring_words.specs.declared.device.Device.{Device}
use Rattle.ring_model.proofs.draft.Draft.device_at.Goals as goal

pub returns : goal.returns
returns c = rw (← c.self.view_is)
    (find_from_yields_List (λ (d : Device). same_place d.row c.args.row.now) _ _ c.find.result
    c.find.ensures.ran (YieldsList-from_slice c.self.inside.parts.devices.items
    (cc (c.deref.ensures.value, c.iter.ensures.rest))) (λ x b q k. search (rules, tests)))
