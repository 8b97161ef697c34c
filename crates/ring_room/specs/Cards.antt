-- Seats that devices lack as cards, a pile for each zone: each card is the place of a device. A seat
-- takes a card of the zone that is least crowded and has most of them left.
use Rattle.std.specs.Prelude.{ℕ, ◌+◌, ◌-◌, ◌*◌, ◌<◌, ◌%◌, ◌&&◌, Bool, min, nat_lt, not, if◌then◌else◌}
use Rattle.std.specs.Prelude.{List, length, take, swap_remove, slice_get, slice_index, slice_index_or, [], Option, Some, None}
use Rattle.ring_words.specs.Limits.{greatest_long, long_count}
use Rattle.ring_share.specs.Crowd.{is_less, tiers_of}
use Rattle.ring_room.specs.declared.cards.Card.{Card}
use Rattle.ring_room.specs.declared.cards.Taken.{Taken}
use Rattle.ring_room.specs.Load.{Load, crowd_in, is_free_in}
use Rattle.ring_room.specs.Places.{id_at, place_after}
use Rattle.ring_room.specs.Search.{least_place}
use Rattle.ring_room.specs.Steps.{after_steps, first_below}

-- how many cards of a pile are looked at
abbrev pub window : ℕ
window = 16

-- how many piles are compared at first
abbrev pub few_piles : ℕ
few_piles = 6

-- how many more seats the device at a place wants than it has
abbrev pub lacks_at : Load → ℕ → ℕ
lacks_at load place = slice_index load.wanted place - slice_index load.counts place

-- whether the devices at two places share a zone
abbrev pub shares_zone : Load → ℕ → ℕ → Bool
shares_zone load one other = (tiers_of load.devices).zone (id_at load.devices one)
    (id_at load.devices other)

-- ---- the cards of a pile

-- those that are looked at
abbrev pub in_front : List ℕ → List ℕ
in_front cards = take window cards

-- the cards without one: the last of all comes to its place
abbrev pub without_card : List ℕ → ℕ → List ℕ
without_card cards index = swap_remove cards index (slice_index cards index)

-- whether there is a device at a place that has room, is outside and is no more crowded than this
abbrev pub fits : Load → List (Option ℕ) → ℕ × ℕ × ℕ → ℕ → Bool
fits load row crowd place = nat_lt place (length load.devices) &&
    (is_free_in load row (id_at load.devices place) &&
    not (is_less crowd (crowd_in load row (id_at load.devices place))))

-- at which of these cards the first such device is
abbrev pub first_fit : Load → List (Option ℕ) → ℕ × ℕ × ℕ → List ℕ → Option ℕ
first_fit load row crowd cards = first_below (λ index. fits load row crowd (slice_index cards index))
    (length cards)

-- ---- the piles

-- how crowded the device on a card is for a seat, if there is one
abbrev pub crowd_on : Load → List (Option ℕ) → Option ℕ → Option (ℕ × ℕ × ℕ)
crowd_on load row None = None
crowd_on load row (Some place) = if nat_lt place (length load.devices) then Some (crowd_in load row
    (id_at load.devices place)) else None

-- how crowded the device on the first card of a pile is
abbrev pub pile_crowd : Load → List (Option ℕ) → List ℕ → Option (ℕ × ℕ × ℕ)
pile_crowd load row cards = crowd_on load row (slice_get cards 0)

-- the rank of a pile without a card of a device: behind all others
abbrev pub no_rank : ℕ
no_rank = 18446744073709551615

-- the rank of a pile: the less crowded its zone the lower, by region and then by zone, and among
-- equals the more cards the lower
abbrev pub rank_of : ℕ → Option (ℕ × ℕ × ℕ) → ℕ
rank_of cards None = no_rank
rank_of cards (Some crowd) = (crowd.0 * 8 + crowd.1) * long_count + (greatest_long - cards)

-- that of a pile for a seat
abbrev pub pile_rank : Load → List (Option ℕ) → List ℕ → ℕ
pile_rank load row cards = rank_of (length cards) (pile_crowd load row cards)

-- the best so far, a pile with its rank, or another pile if its rank is lower
abbrev pub lower_of : ℕ × ℕ → ℕ → ℕ → ℕ × ℕ
lower_of best pile rank = if nat_lt rank best.1 then (pile, rank) else best

-- so with the pile some steps after one
abbrev pub better_pile : Load → List (Option ℕ) → List (List ℕ) → ℕ → ℕ → ℕ × ℕ → ℕ × ℕ
better_pile load row piles start step best = lower_of best (place_after (length piles) start step)
    (pile_rank load row (slice_index_or piles (place_after (length piles) start step) []))

-- the best of so many piles from one on
abbrev pub best_pile : Load → List (Option ℕ) → List (List ℕ) → ℕ → ℕ → ℕ
best_pile load row piles start count = (after_steps (better_pile load row piles start) count
    (start, no_rank)).0

-- a card of a pile
abbrev pub card_of : ℕ → Option ℕ → Option Card
card_of pile None = None
card_of pile (Some index) = Some (record { pile = pile; index = index })

-- the first card of a pile, of those in front, that fits
abbrev pub card_in : Load → List (Option ℕ) → ℕ × ℕ × ℕ → List (List ℕ) → ℕ → Option Card
card_in load row crowd piles pile = card_of pile (first_fit load row crowd
    (in_front (slice_index_or piles pile [])))

-- a card, or else what another search finds
abbrev pub or_card : Option Card → Option Card → Option Card
or_card (Some card) other = Some card
or_card None other = other

-- a card of the best of a few piles from one on that fits, or else of the best of all
abbrev pub card_from : Load → List (Option ℕ) → ℕ × ℕ × ℕ → List (List ℕ) → ℕ → Option Card
card_from load row crowd piles start = or_card
    (card_in load row crowd piles (best_pile load row piles start (min (length piles) few_piles)))
    (card_in load row crowd piles (best_pile load row piles start (length piles)))

-- the card for a seat whose least crowded devices are so crowded, from a drawn pile on
abbrev pub card_for : Load → List (Option ℕ) → ℕ × ℕ × ℕ → List (List ℕ) → ℕ → Option Card
card_for load row crowd piles draw = card_from load row crowd piles (draw % length piles)

-- ---- what is taken

-- the place on a card
abbrev pub place_on : List (List ℕ) → Card → ℕ
place_on piles card = slice_index (slice_index_or piles card.pile []) card.index

-- This card lies in one of the piles.
abbrev pub IsCard : List (List ℕ) → Card → Type 0
IsCard piles card = (card.pile < length piles) × (card.index < length (slice_index_or piles card.pile []))

-- the device on the card, or that at a place where no card serves
abbrev pub taken_by : List (List ℕ) → ℕ → Option Card → Taken
taken_by piles best None = record { place = best; card = None }
taken_by piles best (Some card) = record { place = place_on piles card; card = Some card }

-- a card as good as a least crowded device, if there is such a device
abbrev pub taken_from : Load → List (Option ℕ) → List (List ℕ) → ℕ → Option ℕ → Option Taken
taken_from load row piles draw None = None
taken_from load row piles draw (Some best) = Some (taken_by piles best (card_for load row
    (crowd_in load row (id_at load.devices best)) piles draw))

-- the device that a seat takes
abbrev pub taken : Load → List (Option ℕ) → List (List ℕ) → ℕ → Option Taken
taken load row piles draw = taken_from load row piles draw (least_place load row draw)
