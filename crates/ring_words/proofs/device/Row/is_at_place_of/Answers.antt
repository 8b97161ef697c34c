use Rattle.std.proofs.Common.{◌≡◌, ◌==◌, ◌&&◌, Bool, true, sym, ◌∙◌}
use Rattle.std.proofs.lemmas.Bool.{false≢true}
use Rattle.ring_words.proofs.device.Row.is_at_place_of.Goals as goal
use Rattle.ring_words.proofs.device.Row.is_at_place_of.Goals.{then-eq, else-eq}

-- Where two of three tests hold, all hold if the last one does.
last_of_three : (a b d r : Bool) → a ≡ true → b ≡ true → r ≡ d → r ≡ a && (b && d)
last_of_three a b d r one two last = rw (one, two) last

pub returns-then-eq-2 : goal.returns-then-eq-2
returns-then-eq-2 c =
    elim c.if-eq.branch [
      | then-eq w ↦ last_of_three (c.args.self.now.address == c.args.other.now.address)
          (c.args.self.now.port == c.args.other.now.port) _ _ (sym c.eq.ensures ∙ w.if-eq.true)
          (sym w.eq-then-eq.ensures ∙ (sym w.value-is ∙ c.if-eq-2.true)) c.eq-then-eq-2.ensures
      | else-eq w ↦ absurd (false≢true (sym w.if-eq.false ∙ (sym w.value-is ∙ c.if-eq-2.true)))
    ]
