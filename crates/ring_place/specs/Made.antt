-- The one ring that a rebalance makes, by name: each choice is a function of how full the devices are,
-- of the seats of a partition and of a draw.
use Rattle.ring_room.specs.Steps.{after_steps, first_below}
use Rattle.ring_room.specs.Cards.{lacks_at, shares_zone, taken, without_card}
use Rattle.ring_room.specs.declared.cards.Card.{Card}
use Rattle.ring_room.specs.Search.{least_place, open_place, own_or_place, roomy_places}
use Rattle.ring_room.specs.declared.cards.Taken.{Taken}
use Rattle.std.specs.Prelude.{ℕ, ◌+◌, ◌-◌, ◌==◌, ◌&&◌, ◌||◌, Bool, true, false, not, if◌then◌else◌}
use Rattle.std.specs.Prelude.{count_by, filter, is_some, max, replicate}
use Rattle.std.specs.Prelude.{List, [], ◌∷◌, ◌++◌, length, slice_index, Option, Some, None}
use Rattle.std.specs.Prelude.{slice_index_or, slice_set, map, nat_le, nat_lt}
use Rattle.std.specs.Option.{option_map}
use Rattle.std.specs.List.{flat_map, list_all, list_any, range_with_len}
use Rattle.ring_words.specs.declared.device.Device.{Device}
use Rattle.rand_pcg.specs.Lcg.{Lcg}
use Rattle.rand_pcg.specs.Pcg.{pcg32}
use Rattle.ring_model.specs.Ring.{RingRecord, has_present, is_assigned, partition_count}
use Rattle.ring_share.specs.Crowd.{is_less, is_on, others, rows_of}
use Rattle.ring_share.specs.Room.{have, place_of}
use Rattle.ring_deal.specs.Deal.{dealt_seats}
use Rattle.ring_deal.specs.Draws.{draws_of, shuffled}
use Rattle.ring_place.specs.Rebalance.{differs, is_recent}
use Rattle.ring_place.specs.declared.gather.Pass.{Pass}
use Rattle.ring_place.specs.declared.gather.Pass.TheVariants.{First, Apart, Beside, Second}
use Rattle.ring_place.specs.declared.place.Turn.{Turn}
use Rattle.ring_place.specs.declared.place.Turn.TheVariants.{Homeless, Home, Rest}
use Rattle.ring_place.specs.declared.surplus.Gift.{Gift}
use Rattle.ring_room.specs.Free.{has_free_in, is_crowded_in}
use Rattle.ring_room.specs.Load.{Load, crowd_in, has_room_in, load_put, seats_of}
use Rattle.ring_room.specs.Load.{have_in, load_take, want_in}
use Rattle.ring_room.specs.Rows.{devices_on, is_empty}
use Rattle.ring_room.specs.Places.{id_at}

-- ---- the rows

-- the row of a partition
abbrev pub row_at : List (List (Option ℕ)) → ℕ → List (Option ℕ)
row_at rows partition = slice_index_or rows partition []

-- whether a seat is empty, or its device is marked to be removed
abbrev pub is_lost_in : List Device → Option ℕ → Bool
is_lost_in devices None = true
is_lost_in devices (Some id) = not (has_present id devices)

-- the device of the seat that is chosen, if one is
abbrev pub device_at : List (Option ℕ) → Option ℕ → Option ℕ
device_at row None = None
device_at row (Some replica) = slice_index_or row replica None

-- the first empty seat of a partition by replica, if it has any
abbrev pub first_empty : List (Option ℕ) → Option ℕ
first_empty row = first_below (λ replica. is_empty (slice_index_or row replica None)) (length row)

-- ---- the choice

-- the place where no device has room: the seat's own, if its device remains, else the best open one
abbrev pub stay_or_open : Load → List (Option ℕ) → Option ℕ → ℕ
stay_or_open load row None = open_place load row
stay_or_open load row (Some own) = if has_present own load.devices then place_of own load.devices else
    open_place load row

-- a place, with the card of what is taken if that is it
abbrev pub with_card : Taken → ℕ → Taken
with_card taken place = record {
  place = place;
  card = if place == taken.place then taken.card else None;
}

-- the least crowded place with room if there is one, or the seat's own if that is no more crowded
abbrev pub chosen_of : Load → List (Option ℕ) → Option ℕ → Option Taken → Taken
chosen_of load row own None = record { place = stay_or_open load row own; card = None }
chosen_of load row own (Some taken) = with_card taken (own_or_place load row own taken.place)

-- where a lifted seat goes, and the card that goes with it
abbrev pub chosen : Load → List (Option ℕ) → Option ℕ → List (List ℕ) → ℕ → Taken
chosen load row own piles draw = chosen_of load row own (taken load row piles draw)

-- ---- cards

-- the piles of cards, one for each zone that lacks seats, and the draws that are to come
pub record Cards : Type 0 where
  pub piles : List (List ℕ)
  pub draws : Lcg

-- whether no device before the one at a place shares its zone
abbrev pub is_first : Load → ℕ → Bool
is_first load place = not (list_any (shares_zone load place) (range_with_len 0 place))

-- the place of the first device of each zone
abbrev pub zone_places : Load → List ℕ
zone_places load = filter (is_first load) (range_with_len 0 (length load.devices))

-- a card for each seat that the device at a place lacks, if it is in the zone of another
abbrev pub cards_at : Load → ℕ → ℕ → List ℕ
cards_at load zone place = if shares_zone load zone place then replicate (lacks_at load place) place
    else []

-- a card for each seat that a device in the zone of another lacks
abbrev pub zone_cards : Load → ℕ → List ℕ
zone_cards load zone = flat_map (cards_at load zone) (range_with_len 0 (length load.devices))

-- with a pile of these cards, which are shuffled, and the draws after that
abbrev pub with_pile : Cards → List ℕ × Lcg → Cards
with_pile now shuffled = record { piles = now.piles ++ shuffled.0 ∷ []; draws = shuffled.1 }

-- with a pile of the cards of a zone, in an order that is drawn, if it has any
abbrev pub pile_more : Load → ℕ → Cards → Cards
pile_more load zone now = if nat_lt 0 (length (zone_cards load zone)) then with_pile now
    (shuffled (zone_cards load zone) now.draws) else now

-- so with one of the zone at a place of a list
abbrev pub pile_at : Load → List ℕ → ℕ → Cards → Cards
pile_at load zones n now = pile_more load (slice_index zones n) now

-- piles that are shuffled, with the draws after it
abbrev pub deck_with : List (List ℕ) × Lcg → Cards
deck_with shuffled = record { piles = shuffled.0; draws = shuffled.1 }

-- these, themselves in an order that is drawn
abbrev pub mixed : Cards → Cards
mixed now = deck_with (shuffled now.piles now.draws)

-- a pile for each zone
abbrev pub piles_of : Load → Lcg → Cards
piles_of load draws = after_steps (pile_at load (zone_places load)) (length (zone_places load))
    (record { piles = []; draws = draws })

-- these, in an order that is drawn
abbrev pub deck_of : Load → Lcg → Cards
deck_of load draws = mixed (piles_of load draws)

-- the piles without a card that is dealt, if one is
abbrev pub dealt : List (List ℕ) → Option Card → List (List ℕ)
dealt piles None = piles
dealt piles (Some card) = slice_set piles card.pile (without_card (slice_index_or piles card.pile [])
    card.index)

-- ---- a seat

-- the seats of all partitions while lifted ones are put, how full the devices are, and the draws
pub record Placing : Type 0 where
  pub load : Load
  pub rows : List (List (Option ℕ))
  pub deck : Cards

-- a seat of a partition is put on the device at a place
abbrev pub put_on : ℕ → ℕ → Placing → ℕ → Cards → Placing
put_on partition replica now place deck = record {
  load = load_put now.load (id_at now.load.devices place);
  rows = slice_set now.rows partition (slice_set (row_at now.rows partition) replica
      (Some (id_at now.load.devices place)));
  deck = deck;
}

-- where an empty seat of a partition goes
abbrev pub taken_for : Load → List (Option ℕ) → List (Option ℕ) → ℕ → List (List ℕ) → ℕ → Taken
taken_for load old row replica piles draw = chosen load (seats_of (devices_on row))
    (slice_index_or old replica None) piles draw

-- the cards once one is dealt, if one is, after a draw
abbrev pub after_deal : Cards → Option Card → Cards
after_deal deck card = record {
  piles = dealt deck.piles card;
  draws = (pcg32 deck.draws).1;
}

-- a seat of a partition is put on the device that is taken, with its card
abbrev pub put_taken : ℕ → ℕ → Placing → Taken → Placing
put_taken partition replica now taken = put_on partition replica now taken.place
    (after_deal now.deck taken.card)

-- a seat of a partition is put where it goes by the next draw
abbrev pub put_seat : List (List (Option ℕ)) → ℕ → ℕ → Placing → Placing
put_seat old partition replica now = put_taken partition replica now (taken_for now.load
    (row_at old partition) (row_at now.rows partition) replica now.deck.piles
    (pcg32 now.deck.draws).0)

-- a seat of a partition is put on the device at a place, if it was on that
abbrev pub put_back : ℕ → ℕ → Option ℕ → Placing → ℕ → Placing
put_back partition replica own now place = if is_on (λ id. id == id_at now.load.devices place) own
    then put_on partition replica now place now.deck else now

-- a seat of a partition is put back where it was, if it goes there
abbrev pub put_home : List (List (Option ℕ)) → ℕ → ℕ → Placing → Placing
put_home old partition replica now = put_back partition replica
    (slice_index_or (row_at old partition) replica None) now (taken_for now.load
    (row_at old partition) (row_at now.rows partition) replica [] 0).place

-- ---- homes

-- how crowded a device is, by region and by zone added: a partition has at most five
-- seats
abbrev pub crowd_number : ℕ × ℕ × ℕ → ℕ
crowd_number crowd = crowd.0 + crowd.1

-- whether it is a number
abbrev pub is_number : ℕ → Option ℕ → Bool
is_number number None = false
is_number number (Some other) = other == number

-- the partitions of an order that have a number
abbrev pub numbered_as : (ℕ → Option ℕ) → List ℕ → ℕ → List ℕ
numbered_as number order n = filter (λ partition. is_number n (number partition)) order

-- all of them, one number after another
abbrev pub by_number : (ℕ → Option ℕ) → List ℕ → List ℕ
by_number number order = flat_map (numbered_as number order) (range_with_len 0 11)

-- the number of the device of a seat, if that is greater than a number
abbrev pub heap_with : Load → List (Option ℕ) → Option ℕ → ℕ → ℕ
heap_with load row None most = most
heap_with load row (Some id) most = max (crowd_number (crowd_in load row id)) most

-- so with that of the seat at a place
abbrev pub heap_more : Load → List (Option ℕ) → ℕ → ℕ → ℕ
heap_more load row n most = heap_with load row (slice_index_or row n None) most

-- the greatest of such numbers of some seats
abbrev pub heap_of : Load → List (Option ℕ) → ℕ
heap_of load row = after_steps (heap_more load row) (length row) 0

-- how far a partition is from having all its seats in one region and zone
abbrev pub heap_rank : Load → List (Option ℕ) → ℕ
heap_rank load row = 10 - heap_of load (seats_of (devices_on row))

-- the partitions of an order that have an empty seat
abbrev pub with_empty : List ℕ → List (List (Option ℕ)) → List ℕ
with_empty order rows = filter (λ partition. list_any is_empty (row_at rows partition)) order

-- these, those first that have most seats in one region and zone
abbrev pub waiting : Load → List ℕ → List (List (Option ℕ)) → List ℕ
waiting load order rows = by_number (λ partition. Some (heap_rank load (row_at rows partition)))
    (with_empty order rows)

-- the device that the first empty seat of a partition was on, if it was on one
abbrev pub home_of : List (Option ℕ) → List (Option ℕ) → Option ℕ
home_of old row = device_at old (first_empty row)

-- how crowded a partition's home is for its seat, if it has one
abbrev pub home_crowd : Load → List (Option ℕ) → List (Option ℕ) → Option ℕ
home_crowd load old row = option_map (λ home. crowd_number (crowd_in load (seats_of
    (devices_on row)) home)) (home_of old row)

-- the partitions of an order that have a home, those with the least crowded homes first
abbrev pub asking : Load → List ℕ → List (List (Option ℕ)) → List (List (Option ℕ)) → List ℕ
asking load order old rows = by_number (λ partition. home_crowd load (row_at old partition)
    (row_at rows partition)) order

-- for each partition whether it keeps its home, and how full the devices are with the seats that
-- are to come home
pub record Homes : Type 0 where
  pub load : Load
  pub kept : List Bool

-- whether a partition keeps its home: it has one that has room
abbrev pub keeps_home : Load → Option ℕ → Bool
keeps_home load None = false
keeps_home load (Some home) = has_room_in load home

-- how full the devices are with its seat at home, if it keeps it
abbrev pub with_home : Load → Option ℕ → Load
with_home load None = load
with_home load (Some home) = if has_room_in load home then load_put load home else load

-- a partition keeps its home, or doesn't
abbrev pub keep_home : ℕ → Option ℕ → Homes → Homes
keep_home partition home now = record {
  load = with_home now.load home;
  kept = slice_set now.kept partition (keeps_home now.load home);
}

-- so does the partition at a place of an order
abbrev pub keep_at : List ℕ → List (List (Option ℕ)) → List (List (Option ℕ)) → ℕ → Homes → Homes
keep_at order old rows n now = keep_home (slice_index order n)
    (home_of (row_at old (slice_index order n)) (row_at rows (slice_index order n))) now

-- so do all partitions of an order, one after another
abbrev pub all_kept : List ℕ → List (List (Option ℕ)) → Load → List (List (Option ℕ)) → Homes
all_kept order old load rows = after_steps (keep_at order old rows) (length order)
    (record { load = load; kept = replicate (length rows) false })

-- ---- a turn

-- in a turn a seat of a partition, which keeps its home or doesn't, is put or waits
abbrev pub put_in : Turn → Bool → List (List (Option ℕ)) → ℕ → ℕ → Placing → Placing
put_in Homeless home old partition replica now = if home then now else
    put_seat old partition replica now
put_in Home home old partition replica now = if home then put_home old partition replica now else
    now
put_in Rest home old partition replica now = put_seat old partition replica now

-- so does the seat of a replica, if there is one
abbrev pub put_by : Turn → Bool → List (List (Option ℕ)) → ℕ → Placing → Option ℕ → Placing
put_by kind home old partition now None = now
put_by kind home old partition now (Some replica) = put_in kind home old partition replica now

-- so does the first empty seat of a partition, if it has any
abbrev pub put_first : Turn → Bool → List (List (Option ℕ)) → ℕ → Placing → Placing
put_first kind home old partition now = put_by kind home old partition now
    (first_empty (row_at now.rows partition))

-- so does that of the partition at a place of an order
abbrev pub put_at : Turn → List Bool → List ℕ → List (List (Option ℕ)) → ℕ → Placing → Placing
put_at kind homes order old n now = put_first kind
    (slice_index_or homes (slice_index order n) false) old (slice_index order n) now

-- each partition of an order has its turn
abbrev pub turn : Turn → List Bool → List ℕ → List (List (Option ℕ)) → Placing → Placing
turn kind homes order old now = after_steps (put_at kind homes order old) (length order) now

-- ---- all turns

-- any turn is like the first
abbrev pub turn_at : Turn → List Bool → List ℕ → List (List (Option ℕ)) → ℕ → Placing → Placing
turn_at kind homes order old n now = turn kind homes order old now

-- so many turns, one after another
abbrev pub turns : Turn → List Bool → List ℕ → List (List (Option ℕ)) → ℕ → Placing → Placing
turns kind homes order old count now = after_steps (turn_at kind homes order old) count now

-- how many seats of a partition are empty, if that is more than a number
abbrev pub more_empty : List (List (Option ℕ)) → ℕ → ℕ → ℕ
more_empty rows partition most = max (count_by is_empty (row_at rows partition)) most

-- how many empty seats the partition with the most of them has
abbrev pub most_empty : List (List (Option ℕ)) → ℕ
most_empty rows = after_steps (more_empty rows) (length rows) 0

-- partitions that keep no home put their seats, in as many turns as the most have; then seats go
-- home, in two turns; then the rest is put, in as many turns again
abbrev pub placed_in : List ℕ → List Bool → List (List (Option ℕ)) → ℕ → Placing → Placing
placed_in order homes old most now = turns Rest homes order old most (turns Home homes order old 2
    (turns Homeless homes order old most now))

-- the seats of all partitions are put: cards are made for what is lacking beside the kept homes
abbrev pub put_all : List ℕ → List (List (Option ℕ)) → Load → List (List (Option ℕ)) → Homes → Lcg →
    Placing
put_all order old load rows homes draws = placed_in order homes.kept old (most_empty rows) (record {
  load = load;
  rows = rows;
  deck = deck_of homes.load draws;
})

-- the seats of all partitions are put, after what an order and the homes give
abbrev pub all_placed : List ℕ → List (List (Option ℕ)) → Load → List (List (Option ℕ)) → Lcg →
    Placing
all_placed order old load rows draws = put_all (waiting load order rows) old load rows
    (all_kept (asking load (waiting load order rows) old rows) old load rows) draws

-- ---- what is lifted of a partition

-- how full the devices are, and a partition, while its seats are lifted
pub record Lifting : Type 0 where
  pub load : Load
  pub row : List (Option ℕ)

-- a seat is lifted, if it is on a device that doesn't remain
abbrev pub lose_by : ℕ → Lifting → Option ℕ → Lifting
lose_by replica now None = now
lose_by replica now (Some id) = if has_present id now.load.devices then now else (record {
  load = load_take now.load id;
  row = slice_set now.row replica None;
})

-- the seat of a replica is lifted, if its device is marked to be removed
abbrev pub lose_seat : ℕ → Lifting → Lifting
lose_seat replica now = lose_by replica now (slice_index_or now.row replica None)

-- all such seats of a partition are lifted
abbrev pub lost_row : Load → List (Option ℕ) → Lifting
lost_row load row = after_steps lose_seat (length row) (record { load = load; row = row })

-- a seat that may leave, with the place that it may go to if there is one
abbrev pub gift_to : Load → ℕ → ℕ → Option (ℕ × ℕ × ℕ) → Option Gift
gift_to kept replica id None = None
gift_to kept replica id (Some to) = Some (record {
  replica = replica;
  device = id;
  to = to;
  above = have_in kept id - want_in kept id;
})

-- how crowded the least crowded device with room is that is outside these seats, if there is one
abbrev pub way_out : Load → List (Option ℕ) → Option (ℕ × ℕ × ℕ)
way_out load row = option_map (λ place. crowd_in load row (id_at load.devices place))
    (least_place load row 0)

-- that, if it is no more crowded than another
abbrev pub no_more_than : ℕ × ℕ × ℕ → Option (ℕ × ℕ × ℕ) → Option (ℕ × ℕ × ℕ)
no_more_than own None = None
no_more_than own (Some to) = if is_less own to then None else Some to

-- how crowded the least crowded device with room is that is outside a partition's other seats, if
-- it is no more crowded than the seat's own
abbrev pub crowd_apart : Load → List (Option ℕ) → ℕ → Option (ℕ × ℕ × ℕ)
crowd_apart load rest id = no_more_than (crowd_in load (seats_of (devices_on rest)) id)
    (way_out load (seats_of (devices_on rest)))

-- whether there is such a device, and the seats in its region and those in its zone, added, are at
-- most so many
abbrev pub is_beside : ℕ → Option (ℕ × ℕ × ℕ) → Bool
is_beside most None = false
is_beside most (Some to) = nat_le (to.0 + to.1) most

-- whether the least crowded device with room that is outside a partition's other seats has at most
-- so many of them in its region and in its zone, added
abbrev pub has_beside : Load → List (Option ℕ) → ℕ → Bool
has_beside load rest most = is_beside most (way_out load (seats_of (devices_on rest)))

-- whether a device wants nothing, and some device outside a partition has room
abbrev pub is_drained_in : Load → List (Option ℕ) → ℕ → Bool
is_drained_in load row id = (want_in load id == 0) && has_free_in load row

-- in the first pass seats on such devices leave before crowded ones
abbrev pub first_place : Bool → Bool → Option (ℕ × ℕ × ℕ)
first_place drained crowded = if drained then Some (0, 0, 0) else (if crowded then Some (1, 0, 0) else
    None)

-- how crowded the place is that a seat may leave for in a pass, if it may leave; where the pass
-- doesn't compare places (0, 0, 0), or in the first (1, 0, 0) for one that others come before
abbrev pub way_of : Pass → Load → Load → List (Option ℕ) → ℕ → ℕ → Option (ℕ × ℕ × ℕ)
way_of First was kept row replica id = first_place (is_drained_in was row id) (is_crowded_in was row
    replica id)
way_of Apart was kept row replica id = if nat_lt (want_in kept id) (have_in kept id) then
    crowd_apart was (others row replica) id else None
way_of (Beside most) was kept row replica id = if nat_lt (want_in kept id) (have_in kept id) &&
    has_beside was (others row replica) most then Some (0, 0, 0) else None
way_of Second was kept row replica id = if nat_lt (want_in kept id) (have_in kept id) then
    Some (0, 0, 0) else None

-- a seat on a device, if it may leave in a pass
abbrev pub gift_by : Pass → Load → Load → List (Option ℕ) → ℕ → Option ℕ → Option Gift
gift_by pass was kept row replica None = None
gift_by pass was kept row replica (Some id) = gift_to kept replica id
    (way_of pass was kept row replica id)

-- the seat of a replica, if it may leave in a pass
abbrev pub gift_of : Pass → Load → Load → List (Option ℕ) → ℕ → Option Gift
gift_of pass was kept row replica = gift_by pass was kept row replica
    (slice_index_or row replica None)

-- whether a seat is better to lift: its place is less crowded or, among equals, its device keeps
-- more above its want
abbrev pub is_better : Gift → Gift → Bool
is_better one other = is_less one.to other.to || (not (is_less other.to one.to) &&
    nat_lt other.above one.above)

-- so is any seat than none
abbrev pub beats : Option Gift → Option Gift → Bool
beats None other = false
beats (Some one) None = true
beats (Some one) (Some other) = is_better one other

-- whether there is a seat for a replica, and a better one for none of so many
abbrev pub is_best : (ℕ → Option Gift) → ℕ → ℕ → Bool
is_best gift count replica = is_some (gift replica) && not (list_any (λ other.
    beats (gift other) (gift replica)) (range_with_len 0 count))

-- the first of them that is best
abbrev pub best_of : (ℕ → Option Gift) → ℕ → Option ℕ
best_of gift count = first_below (is_best gift count) count

-- the seat that is lifted of a partition in a pass: the best of those that may leave
abbrev pub best_seat : Pass → Load → Load → List (Option ℕ) → Option ℕ
best_seat pass was kept row = best_of (gift_of pass was kept row) (length row)

-- a partition with that seat empty
abbrev pub without : List (Option ℕ) → Option ℕ → List (Option ℕ)
without row None = row
without row (Some replica) = slice_set row replica None

-- how full the devices are without it
abbrev pub take_by : Load → Option ℕ → Load
take_by load None = load
take_by load (Some id) = load_take load id

-- both at once
abbrev pub lifted_at : Load → List (Option ℕ) → Option ℕ → Lifting
lifted_at load row replica = record {
  load = take_by load (device_at row replica);
  row = without row replica;
}

-- what the first pass lifts of a partition
abbrev pub first_lifting : Load → Load → Bool → List (Option ℕ) → Lifting
first_lifting was kept locked row = if list_any (is_lost_in kept.devices) row then
    lost_row kept row else
    (if locked then (record { load = kept; row = row }) else lifted_at kept row
    (best_seat First was kept row))

-- and what each later pass lifts
abbrev pub later_lifting : Pass → Load → Load → Bool → List (Option ℕ) → Lifting
later_lifting pass was kept locked row = if locked then (record { load = kept; row = row }) else
    (if list_any is_empty row then (record { load = kept; row = row }) else
    (if has_free_in was row then lifted_at kept row (best_seat pass was kept row) else
    (record { load = kept; row = row })))

-- what a pass lifts of a partition
abbrev pub lifting : Pass → Load → Load → Bool → List (Option ℕ) → Lifting
lifting First = first_lifting
lifting Apart = later_lifting Apart
lifting (Beside most) = later_lifting (Beside most)
lifting Second = later_lifting Second

-- ---- of all partitions

-- how full the devices are, and the seats of all partitions, while seats are lifted
pub record Gathering : Type 0 where
  pub load : Load
  pub rows : List (List (Option ℕ))

-- what is lifted of a partition is written
abbrev pub gather_by : Gathering → ℕ → Lifting → Gathering
gather_by now partition lifted = record {
  load = lifted.load;
  rows = slice_set now.rows partition lifted.row;
}

-- a pass at the partition at a place of an order
abbrev pub gather_at : Pass → Load → List Bool → List ℕ → ℕ → Gathering → Gathering
gather_at pass was locked order n now = gather_by now (slice_index order n) (lifting pass was now.load
    (slice_index_or locked (slice_index order n) false) (row_at now.rows (slice_index order n)))

-- a pass at all partitions of an order
abbrev pub passed : Pass → Load → List Bool → List ℕ → Gathering → Gathering
passed pass was locked order now = after_steps (gather_at pass was locked order) (length order) now

-- whether the device at a place keeps more than it wants
abbrev pub is_over_at : Load → ℕ → Bool
is_over_at load place = nat_lt (want_in load (id_at load.devices place))
    (have_in load (id_at load.devices place))

-- whether a device does
abbrev pub has_surplus : Load → Bool
has_surplus load = list_any (is_over_at load) (range_with_len 0 (length load.devices))

-- a pass at all partitions of an order, if a device does
abbrev pub over_passed : Pass → Load → List Bool → List ℕ → Gathering → Gathering
over_passed pass was locked order now = if has_surplus now.load then
    passed pass was locked order now else now

-- how full the devices of a ring are
abbrev pub load_of : RingRecord → List ℕ → Load
load_of ring wanted = record {
  devices = ring.devices;
  wanted = wanted;
  counts = map (λ device. have ring device.id) ring.devices;
}

-- which partitions have moved too few hours ago to move again
abbrev pub locks_of : RingRecord → ℕ → List Bool
locks_of ring hour = map (is_recent ring.min_hours hour) ring.moved

-- what the first pass leaves of a ring
abbrev pub first_passed : RingRecord → List ℕ → ℕ → List ℕ → Gathering
first_passed ring wanted hour order = passed First (load_of ring wanted) (locks_of ring hour) order
    (record { load = load_of ring wanted; rows = rows_of ring })

-- what the passes after it leave
abbrev pub surplus_passed : Load → List Bool → List ℕ → Gathering → Gathering
surplus_passed was locked order now = over_passed Second was locked order (over_passed (Beside 3) was
    locked order (over_passed (Beside 2) was locked order (over_passed (Beside 1) was locked order
    (over_passed (Beside 0) was locked order (over_passed Apart was locked order now)))))

-- what is left of a ring once its seats are gathered
abbrev pub left_of : RingRecord → List ℕ → ℕ → List ℕ → Gathering
left_of ring wanted hour order = if nat_lt 0 (length (roomy_places (load_of ring wanted))) then
    surplus_passed (load_of ring wanted) (locks_of ring hour) order
    (first_passed ring wanted hour order) else first_passed ring wanted hour order

-- ---- the hours

-- how many seats of a partition differ
abbrev pub changed_in : List (Option ℕ) → List (Option ℕ) → ℕ
changed_in old new = count_by (λ replica. differs (slice_index_or old replica None)
    (slice_index_or new replica None)) (range_with_len 0 (length old))

-- the hour of a partition's last move: this one if seats of it differ
abbrev pub stamped : ℕ → ℕ → Option ℕ → Option ℕ
stamped hour count before = if nat_lt 0 count then Some hour else before

-- the hours of the last moves of all partitions
abbrev pub stamps : ℕ → List (Option ℕ) → List (List (Option ℕ)) → List (List (Option ℕ)) →
    List (Option ℕ)
stamps hour moved old new = map (λ partition. stamped hour (changed_in (row_at old partition)
    (row_at new partition)) (slice_index_or moved partition None)) (range_with_len 0 (length old))

-- ---- a rebalance

-- the order of the partitions that a seed draws, and the draws after it
abbrev pub order_of : RingRecord → ℕ → List ℕ × Lcg
order_of ring seed = shuffled (range_with_len 0 (partition_count ring)) (draws_of seed)

-- the seats of a ring once those that were gathered are put, in an order
abbrev pub placed_after : RingRecord → List ℕ × Lcg → Gathering → Placing
placed_after ring order left = all_placed order.0 (rows_of ring) left.load left.rows order.1

-- whether all seats of a ring are dealt at once: none has a device yet, and no device wants two of a
-- partition
abbrev pub is_dealt : RingRecord → List ℕ → Bool
is_dealt ring wanted = not (is_assigned ring) &&
    list_all (λ want. nat_le want (partition_count ring)) wanted

-- the seats that they get
abbrev pub dealt_rows : RingRecord → List ℕ → ℕ → List (List (Option ℕ))
dealt_rows ring wanted seed = rows_of (record ring {
  seats = dealt_seats ring.devices wanted ring.power ring.replicas (draws_of seed);
})

-- whether nothing is gathered: each seat has a device, none is marked to be removed, and none has
-- room
abbrev pub is_settled : RingRecord → List ℕ → Bool
is_settled ring wanted = is_assigned ring && (not (list_any (λ device. device.removed) ring.devices) &&
    not (nat_lt 0 (length (roomy_places (load_of ring wanted)))))

-- the seats once those that were gathered are put
abbrev pub put_rows : RingRecord → List ℕ → ℕ → ℕ → List (List (Option ℕ))
put_rows ring wanted hour seed = (placed_after ring (order_of ring seed)
    (left_of ring wanted hour (order_of ring seed).0)).rows

-- the seats that a rebalance gives
abbrev pub rebalanced_rows : RingRecord → List ℕ → ℕ → ℕ → List (List (Option ℕ))
rebalanced_rows ring wanted hour seed = if is_dealt ring wanted then dealt_rows ring wanted seed else
    (if is_settled ring wanted then rows_of ring else put_rows ring wanted hour seed)
