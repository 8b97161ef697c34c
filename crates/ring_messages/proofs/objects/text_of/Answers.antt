use Rattle.std.proofs.Common.{◌++◌, ◌∙◌, ℕ, List, ap}
use Rattle.json.specs.Print.{print}
use Rattle.ring_messages.proofs.Putting.{text_is}
use Rattle.ring_messages.proofs.objects.text_of.Goals as goal

pub returns : goal.returns
returns c = λ d whole.
    text_is d c.args.writer.tokens _
    (ap (λ bytes. bytes.items) c.in-Ok.ensures.ok ∙ c.into_inner.ensures.items
    ∙ ap (λ (before : List ℕ). before ++ print c.args.writer.tokens) c.requires) whole
