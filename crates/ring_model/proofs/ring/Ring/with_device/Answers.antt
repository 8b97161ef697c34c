use Rattle.std.proofs.Common.{ap, ◌∙◌}
use Rattle.ring_model.specs.Import.{after_row}
use Rattle.ring_model.specs.Ring.{RingRecord, changed}
use Rattle.ring_model.proofs.Changes.{after_free}
use Rattle.ring_model.proofs.ring.Ring.with_device.Goals as goal

pub returns : goal.returns
returns c = c.finish.ensures ∙ ap changed (c.in_ok-put.ensures.ok ∙ (ap (λ (r : RingRecord).
    after_row r c.args.row.now) c.in_ok-draft.ensures ∙ after_free c.args.self.now c.args.row.now
    c.requires.apart))
