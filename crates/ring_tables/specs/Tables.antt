-- The tables of a ring that operators read.
use Rattle.std.specs.Prelude.{ℕ, ◌==◌, ◌++◌, if◌then◌else◌, List, [], ◌∷◌, map, codes, decimal}
use Rattle.std.specs.List.{zip}
use Rattle.ring_model.specs.Ring.{RingRecord}
use Rattle.ring_words.specs.Texts.{hundredths_text, address_text}
use Rattle.ring_words.specs.declared.device.Device.{Device}
use Rattle.ring_share.specs.Room.{have}
use Rattle.ring_share.specs.Figures.{device_balance, ring_balance, ring_dispersion}
use Rattle.ring_tables.specs.Layout.{Columns, at_left, at_right, as_it_is, table}

-- whether seats may go to a device, in a word: it is marked to be removed, it weighs nothing, or
-- they may
abbrev pub state_text : Device → List ℕ
state_text device = if device.removed then codes "removed" else (if device.row.weight == 0 then
    codes "drained" else codes "open")

-- the columns of region, zone, address and port
abbrev pub place_columns : Columns
place_columns = at_right 6 ∷ at_right 5 ∷ at_left 15 ∷ at_right 5 ∷ []

-- those of the device table: the number, the place, the weight, the state and the name
abbrev pub device_columns : Columns
device_columns = at_right 5 ∷ place_columns ++ (at_right 10 ∷ at_left 7 ∷ as_it_is ∷ [])

-- what its columns are called
abbrev pub device_titles : List (List ℕ)
device_titles = codes "id" ∷ codes "region" ∷ codes "zone" ∷ codes "address" ∷ codes "port" ∷
    codes "weight" ∷ codes "state" ∷ codes "name" ∷ []

-- where a device stands
abbrev pub place_texts : Device → List (List ℕ)
place_texts device = decimal device.row.region ∷ decimal device.row.zone ∷
    address_text device.row.address ∷ decimal device.row.port ∷ []

-- what the device table has of a device
abbrev pub device_texts : Device → List (List ℕ)
device_texts device = decimal device.id ∷ place_texts device ++ (hundredths_text device.row.weight ∷
    state_text device ∷ device.row.name ∷ [])

-- where each device of a ring stands, what it weighs, and its state, by rising number
abbrev pub device_table : RingRecord → List ℕ
device_table ring = table device_columns device_titles (map device_texts ring.devices)

-- the columns of the balance table
abbrev pub balance_columns : Columns
balance_columns = at_right 5 ∷ at_right 10 ∷ at_right 6 ∷ at_right 6 ∷ at_right 7 ∷ []

-- what they are called
abbrev pub balance_titles : List (List ℕ)
balance_titles = codes "id" ∷ codes "weight" ∷ codes "wanted" ∷ codes "has" ∷ codes "balance" ∷ []

-- what the balance table has of a device that wants so many seats
abbrev pub balance_texts : RingRecord → Device → ℕ → List (List ℕ)
balance_texts ring device want =
    decimal device.id ∷ hundredths_text device.row.weight ∷ decimal want ∷
    decimal (have ring device.id) ∷ hundredths_text (device_balance ring device) ∷ []

-- the figures of the whole ring, as the last line
abbrev pub figures_line : RingRecord → List ℕ
figures_line ring = codes "balance " ++ hundredths_text (ring_balance ring) ++
    codes " dispersion " ++ hundredths_text (ring_dispersion ring) ++ codes " version " ++
    decimal ring.version ++ 10 ∷ []

-- how many seats each device of a ring wants and has, and how far that is from its share, by rising
-- number; the wants are in the order of the devices
abbrev pub balance_table : RingRecord → List ℕ → List ℕ
balance_table ring wants = table balance_columns balance_titles
    (map (λ e. balance_texts ring e.0 e.1) (zip ring.devices wants)) ++ figures_line ring
