use Rattle.std.proofs.Common.{◌≡◌, ◌<◌, ℕ, List, length, get_or, sym, ap, ap₂, ◌∙◌}
use Rattle.std.specs.List.{swap_remove}
use Rattle.ring_room.specs.Cards.{without_card}
use Rattle.ring_room.proofs.Searching.DevicesAt.{index_is}
use Rattle.ring_room.proofs.piles.Pile.deal.Goals as goal

-- A card that is taken out of a pile is the one at its index.
taken_out : (cards now new : List ℕ) → cards ≡ now → (index card : ℕ) → index < length now →
    card ≡ get_or cards index card → new ≡ swap_remove cards index card →
    new ≡ without_card now index
taken_out cards now new same index card lt read is =
    is ∙ ap₂ (λ (cs : List ℕ) (c : ℕ). swap_remove cs index c) same (sym (index_is now index card lt
    (read ∙ ap (λ (cs : List ℕ). get_or cs index card) same)))

pub returns : goal.returns
returns c = taken_out _ c.args.self.now c.swap_remove.new.self.items c.self.view_is c.args.index
    c.swap_remove.result c.requires c.swap_remove.ensures.value c.swap_remove.ensures.items
