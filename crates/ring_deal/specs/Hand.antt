-- What a hand takes of the cards that devices have left, and how it goes round.
use Rattle.std.specs.Prelude.{ℕ, ◌+◌, ◌-◌, ◌*◌, ◌/◌, ◌%◌, List, [], ◌++◌, length, map, replicate}
use Rattle.std.specs.Prelude.{slice_index, slice_set}
use Rattle.std.specs.List.{flat_map, range_with_len}
use Rattle.ring_room.specs.Steps.{after_steps}

-- ---- what a hand takes

-- the cards of a hand, by the places of their devices, how many cards are left of each device, and
-- how many were passed over since the last that was taken
pub record Taking : Type 0 where
  pub hand : List ℕ
  pub left : List ℕ
  pub passed : ℕ

-- the cards that lie before the last of a device
abbrev pub reached : Taking → ℕ → ℕ
reached now place = now.passed + slice_index now.left place

-- of all cards in a row each so-manieth is taken: so many of the device at a place
abbrev pub take_cards : ℕ → ℕ → Taking → Taking
take_cards hands place now = record {
  hand = now.hand ++ replicate (reached now place / hands) place;
  left = slice_set now.left place (slice_index now.left place - reached now place / hands);
  passed = reached now place % hands;
}

-- so with the device at a place of an order
abbrev pub take_at : ℕ → List ℕ → ℕ → Taking → Taking
take_at hands order n now = take_cards hands (slice_index order n) now

-- what the next of so many hands takes of the cards that are left, laid in a row in an order
abbrev pub taken_of : ℕ → List ℕ → List ℕ → Taking
taken_of hands order left = after_steps (take_at hands order) (length order) (record {
  hand = [];
  left = left;
  passed = 0;
})

-- ---- how it goes round

-- the cards that fall to one of so many partitions, one in each round
abbrev pub cards_of : List ℕ → ℕ → ℕ → ℕ → List ℕ
cards_of hand size replicas n = map (λ round. slice_index hand (round * size + n))
    (range_with_len 0 replicas)

-- those of all of them, one partition after another
abbrev pub dealt_round : List ℕ → ℕ → ℕ → List ℕ
dealt_round hand size replicas = flat_map (cards_of hand size replicas) (range_with_len 0 size)
