-- What stays true while cards are taken and hands are dealt.
use Rattle.std.specs.Prelude.{◌≡◌, ◌==◌, ◌<◌, ◌≤◌, ℕ, ◌+◌, ◌-◌, ◌*◌, true, false, All, List, length, count_by}
use Rattle.std.specs.Prelude.{slice_index, sum, sum_by, take}
use Rattle.ring_words.specs.declared.device.Device.{Device}
use Rattle.ring_model.specs.Valid.{AreDistinct}
use Rattle.ring_deal.specs.Deal.{Dealing, hand_count, hand_size}
use Rattle.ring_deal.specs.Hand.{Taking}
use Rattle.ring_deal.specs.Inner.Orders.{is_among}
use Rattle.ring_deal.specs.Inner.Spread.{AreSpread}

-- how many cards of the device at a place are in a hand
abbrev pub cards_in : List ℕ → ℕ → ℕ
cards_in hand place = count_by (λ other. other == place) hand

-- Cards of devices can be dealt to so many hands more than one, of so many partitions each: they
-- come to all seats, and no device has more cards than there are partitions.
pub record AreLeft (hands size replicas : ℕ) (left : List ℕ) : Type 0 where
  pub each : All (λ cards. cards ≤ hands * size) left
  pub all : sum left ≡ hands * size * replicas

-- The devices of an order that were gone through have given a hand their cards, and the others none:
-- `later` hands come after this one.
pub record IsTaking (later size : ℕ) (order left : List ℕ) (n : ℕ) (now : Taking) : Type 0 where
  pub long : length now.left ≡ length left
  pub passed : now.passed ≤ later
  pub sums : length now.hand * (later + 1) + now.passed ≡ sum_by (λ place. slice_index left place)
      (take n order)
  pub all : sum now.left + length now.hand ≡ sum left
  pub spread : AreSpread size now.hand
  pub within : All (λ place. place < length left) now.hand
  pub done : (place : ℕ) → is_among (take n order) place ≡ true →
      slice_index now.left place ≤ later * size
  pub kept : (place : ℕ) → cards_in now.hand place + slice_index now.left place ≡ slice_index left
      place
  pub none : (place : ℕ) → is_among (take n order) place ≡ false → cards_in now.hand place ≡ 0

-- A hand is taken, and what is left can be dealt to so many later ones.
pub record IsTaken (later size replicas : ℕ) (left : List ℕ) (taken : Taking) : Type 0 where
  pub long : length taken.left ≡ length left
  pub count : length taken.hand ≡ replicas * size
  pub spread : AreSpread size taken.hand
  pub within : All (λ place. place < length left) taken.hand
  pub left_over : AreLeft later size replicas taken.left
  pub kept : (place : ℕ) → cards_in taken.hand place + slice_index taken.left place ≡ slice_index
      left place

-- So many hands of a ring of a part power are dealt.
pub record IsDealing (devices : List Device) (wanted : List ℕ) (part replicas n : ℕ) (now : Dealing) :
    Type 0 where
  pub long : length now.left ≡ length devices
  pub left_over : AreLeft (hand_count part - n) (hand_size part) replicas now.left
  pub count : length now.places ≡ n * hand_size part * replicas
  pub within : All (λ place. place < length devices) now.places
  pub distinct : AreDistinct replicas now.places
  pub kept : (place : ℕ) → cards_in now.places place + slice_index now.left place ≡ slice_index wanted
      place
