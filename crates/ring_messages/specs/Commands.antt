-- The object and the one text of each command, and what holds of every command.
use Rattle.std.specs.Prelude.{ℕ, List, [], ◌∷◌, IsTrue, codes}
use Rattle.ring_words.specs.Limits.{greatest_long, greatest_power, greatest_short, most_replicas}
use Rattle.serde_json.specs.Data.{Data, string, object, put}
use Rattle.serde_json.specs.Written.{compact_text}
use Rattle.ring_words.specs.Texts.{is_label}
use Rattle.ring_words.specs.declared.command.Command.{Command}
use Rattle.ring_words.specs.declared.command.Act.{Act}
use Rattle.ring_words.specs.declared.command.Act.TheVariants.{Create, Add, OnDevice, SetHours}
use Rattle.ring_words.specs.declared.command.Act.TheVariants.{Import, Rebalance, RebalanceAs}
use Rattle.ring_words.specs.declared.command.DeviceAct.{DeviceAct}
use Rattle.ring_words.specs.declared.command.DeviceAct.TheVariants.{SetWeight}
use Rattle.ring_words.specs.Kinds.{act_kind}
use Rattle.ring_messages.specs.Words.{kind_word}
use Rattle.ring_messages.specs.Fields.{Fields, within, device_name, address, weight, rows, members}
use Rattle.ring_messages.specs.Fields.{AreProper}

-- The word of what is to be done.
abbrev pub act_word : Act → List ℕ
act_word a = kind_word (act_kind a)

-- What stands under the further keys of what is done to a device, beside the device's number.
abbrev pub device_act_fields : DeviceAct → Fields
device_act_fields (SetWeight w) = (codes "weight", weight w) ∷ []
device_act_fields other = []

-- What stands under its further keys, beside the ring and the word.
abbrev pub act_fields : Act → Fields
act_fields (Create n) =
    (codes "power", within 1 greatest_power n.power)
    ∷ (codes "replicas", within 1 most_replicas n.replicas)
    ∷ (codes "min_hours", within 0 greatest_short n.min_hours) ∷ []
act_fields (Add r) =
    (codes "region", within 0 greatest_short r.region)
    ∷ (codes "zone", within 0 greatest_short r.zone)
    ∷ (codes "address", address r.address) ∷ (codes "port", within 1 greatest_short r.port)
    ∷ (codes "name", device_name r.name) ∷ (codes "weight", weight r.weight) ∷ []
act_fields (OnDevice id what) =
    (codes "id", within 0 greatest_short id) ∷ device_act_fields what
act_fields (SetHours hours) = (codes "min_hours", within 0 greatest_short hours) ∷ []
act_fields (Rebalance seed) = (codes "seed", within 0 greatest_long seed) ∷ []
act_fields (RebalanceAs told) =
    (codes "hour", within 0 greatest_long told.hour)
    ∷ (codes "seed", within 0 greatest_long told.seed)
    ∷ (codes "version", within 0 greatest_long told.version) ∷ []
act_fields (Import rs) = (codes "rows", rows rs) ∷ []
act_fields other = []

-- The object of a command with this word and these fields for this ring.
abbrev pub command_object : List ℕ → List ℕ → Fields → Data
command_object word ring fields =
    object (put (codes "do") (string word) (put (codes "ring") (string ring) (members fields)))

-- The object of a command that does this to this ring.
abbrev pub act_data : List ℕ → Act → Data
act_data ring a = command_object (act_word a) ring (act_fields a)

-- The object of a command.
abbrev pub command_data : Command → Data
command_data c = act_data c.ring c.act

-- The text of a command: its object in compact JSON, its keys in byte order.
abbrev pub canonical : Command → List ℕ
canonical c = compact_text (command_data c)

-- The act's fields are such as there are.
abbrev pub IsProperAct : Act → Type 0
IsProperAct a = AreProper (act_fields a)

-- The ring has a ring's name, and the fields are such as there are.
pub record IsProperCommand (c : Command) : Type 0 where
  pub ring : IsTrue (is_label c.ring)
  pub act : IsProperAct c.act
