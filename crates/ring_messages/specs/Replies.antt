-- The text and the status of each answer: compact JSON, its keys in byte order.
use Rattle.std.specs.Prelude.{ℕ, ◌<◌, ◌^◌, List, [], ◌∷◌, codes, ⊤}
use Rattle.ring_words.specs.Limits.{greatest_long, greatest_short}
use Rattle.serde_json.specs.Data.{Data, string, object, no_members, member, put}
use Rattle.serde_json.specs.Written.{compact_text}
use Rattle.ring_words.specs.declared.command.Done.{Done}
use Rattle.ring_words.specs.declared.command.Deed.{Deed}
use Rattle.ring_words.specs.declared.command.Deed.TheVariants.{Add, Import, Rebalance, RebalanceAs}
use Rattle.ring_words.specs.Kinds.{deed_kind}
use Rattle.ring_messages.specs.Words.{kind_word}
use Rattle.ring_words.specs.declared.command.Refusal.{Refusal}
use Rattle.ring_words.specs.declared.command.Refusal.TheVariants.{NoRing, RingExists, TooManyRings}
use Rattle.ring_words.specs.declared.command.Refusal.TheVariants.{NoDevice, DeviceExists}
use Rattle.ring_words.specs.declared.command.Refusal.TheVariants.{DeviceRemoved, TooManyDevices}
use Rattle.ring_words.specs.declared.command.Refusal.TheVariants.{IdsUsedUp, TooFewDevices}
use Rattle.ring_words.specs.declared.command.Refusal.TheVariants.{NotAssigned, TooManyVersions}
use Rattle.ring_words.specs.declared.command.Refusal.TheVariants.{RowRefused, PowerLimit}
use Rattle.ring_words.specs.declared.command.Refusal.TheVariants.{NotMarked, OtherVersion}
use Rattle.ring_words.specs.declared.command.Refusal.TheVariants.{OtherHour}
use Rattle.ring_words.specs.declared.command.RowCause.{RowCause}
use Rattle.ring_words.specs.declared.command.RowCause.TheVariants as cause
use Rattle.ring_words.specs.declared.command.Reply.{Reply}
use Rattle.ring_words.specs.declared.command.Reply.TheVariants as reply
use Rattle.ring_messages.specs.Fields.{Field, Fields, within, whole, members, AreProper}
use Rattle.ring_messages.specs.declared.told.Told.{Told}
use Rattle.ring_messages.specs.declared.told.Told.TheVariants as told

-- The word of what was done.
abbrev pub done_word : Done → List ℕ
done_word x = kind_word (deed_kind x.deed)

-- The ring's version.
abbrev pub version_field : ℕ → List ℕ × Field
version_field version = (codes "version", within 0 greatest_long version)

-- The figures of a rebalance.
abbrev pub figures : ℕ → ℕ → ℕ → Fields
figures balance changed dispersion =
    (codes "balance", within 0 greatest_long balance)
    ∷ (codes "changed", within 0 greatest_long changed)
    ∷ (codes "dispersion", within 0 greatest_long dispersion) ∷ []

-- What is told of what was done, beside the ring's version.
abbrev pub deed_fields : Deed → Fields
deed_fields (Add id) = (codes "id", within 0 greatest_short id) ∷ []
deed_fields (Rebalance balance changed dispersion) = figures balance changed dispersion
deed_fields (RebalanceAs balance changed dispersion) = figures balance changed dispersion
deed_fields (Import added reweighted) =
    (codes "added", within 0 18446744073709551615 added)
    ∷ (codes "reweighted", within 0 18446744073709551615 reweighted) ∷ []
deed_fields other = []

-- What is told: in each case the version that the ring has now.
abbrev pub done_fields : Done → Fields
done_fields x = version_field x.version ∷ deed_fields x.deed

-- What is written where this was done and these fields are told.
abbrev pub done_object : List ℕ → Fields → Data
done_object word fields = object (put (codes "done") (string word) (members fields))

-- What is written of what was done.
abbrev pub done_data : Done → Data
done_data x = done_object (done_word x) (done_fields x)

-- What a refusal is called.
abbrev pub refusal_name : Refusal → List ℕ
refusal_name NoRing = codes "NoRing"
refusal_name RingExists = codes "RingExists"
refusal_name TooManyRings = codes "TooManyRings"
refusal_name NoDevice = codes "NoDevice"
refusal_name DeviceExists = codes "DeviceExists"
refusal_name DeviceRemoved = codes "DeviceRemoved"
refusal_name TooManyDevices = codes "TooManyDevices"
refusal_name IdsUsedUp = codes "IdsUsedUp"
refusal_name (RowRefused row why) = codes "RowRefused"
refusal_name TooFewDevices = codes "TooFewDevices"
refusal_name NotAssigned = codes "NotAssigned"
refusal_name TooManyVersions = codes "TooManyVersions"
refusal_name PowerLimit = codes "PowerLimit"
refusal_name NotMarked = codes "NotMarked"
refusal_name OtherVersion = codes "OtherVersion"
refusal_name OtherHour = codes "OtherHour"

-- The number of the rule that a refusal is by.
abbrev pub refusal_rule : Refusal → ℕ
refusal_rule NoRing = 1
refusal_rule RingExists = 2
refusal_rule TooManyRings = 3
refusal_rule NoDevice = 4
refusal_rule DeviceExists = 5
refusal_rule DeviceRemoved = 6
refusal_rule TooManyDevices = 7
refusal_rule IdsUsedUp = 8
refusal_rule (RowRefused row why) = 13
refusal_rule TooFewDevices = 9
refusal_rule NotAssigned = 10
refusal_rule TooManyVersions = 11
refusal_rule PowerLimit = 14
refusal_rule NotMarked = 15
refusal_rule OtherVersion = 16
refusal_rule OtherHour = 17

-- The number of the rule that a row is refused by.
abbrev pub cause_rule : RowCause → ℕ
cause_rule cause.DeviceRemoved = 6
cause_rule cause.TooManyDevices = 7
cause_rule cause.IdsUsedUp = 8
cause_rule cause.TierDiffers = 12

-- What is written of a refusal with this name, by this rule.
abbrev pub refused_data : List ℕ → ℕ → Data
refused_data name rule =
    object (member (codes "refused") (string name) (member (codes "rule") (whole rule) no_members))

-- What is written of the refusal of a row by this rule.
abbrev pub row_refused_data : ℕ → ℕ → Data
row_refused_data row rule =
    object (member (codes "cause") (whole rule)
    (member (codes "refused") (string (codes "RowRefused"))
    (member (codes "row") (whole row) (member (codes "rule") (whole 13) no_members))))

-- What is written of a refusal.
abbrev pub refusal_data : Refusal → Data
refusal_data (RowRefused row why) = row_refused_data row (cause_rule why)
refusal_data other = refused_data (refusal_name other) (refusal_rule other)

-- What is written of a reply.
abbrev pub reply_data : Reply → Data
reply_data (reply.Done d) = done_data d
reply_data (reply.Refused r) = refusal_data r

-- The text of a reply.
abbrev pub reply_text : Reply → List ℕ
reply_text r = compact_text (reply_data r)

-- The number of a row has 64 bits.
abbrev pub IsProperRefusal : Refusal → Type 0
IsProperRefusal (RowRefused row why) = row < 2 ^ 64
IsProperRefusal other = ⊤

-- What was done, or why it wasn't, has numbers such as there are.
abbrev pub IsProperReply : Reply → Type 0
IsProperReply (reply.Done d) = AreProper (done_fields d)
IsProperReply (reply.Refused r) = IsProperRefusal r

-- What is written of a fault with this name, by this rule.
abbrev pub fault_data : List ℕ → ℕ → Data
fault_data name rule =
    object (member (codes "fault") (string name) (member (codes "rule") (whole rule) no_members))

-- What is written of a row of the wrong length.
abbrev pub bad_row_data : ℕ → Data
bad_row_data row =
    object (member (codes "fault") (string (codes "BadRow"))
    (member (codes "row") (whole row) (member (codes "rule") (whole 41) no_members)))

-- What is written of a field that isn't of its form.
abbrev pub bad_field_data : ℕ → ℕ → Data
bad_field_data row column =
    object (member (codes "column") (whole column)
    (member (codes "fault") (string (codes "BadField"))
    (member (codes "row") (whole row) (member (codes "rule") (whole 42) no_members))))

-- What is written of an answer.
abbrev pub told_data : Told → Data
told_data (told.Reply r) = reply_data r
told_data told.Unreadable = fault_data (codes "Unreadable") 20
told_data told.NumberReused = fault_data (codes "NumberReused") 21
told_data told.BookFull = fault_data (codes "BookFull") 22
told_data told.NoMemory = fault_data (codes "NoMemory") 23
told_data told.StoreFault = fault_data (codes "StoreFault") 24
told_data told.Closed = fault_data (codes "Closed") 25
told_data told.BadPath = refused_data (codes "BadPath") 30
told_data told.NoVersion = refused_data (codes "NoVersion") 32
told_data told.BadHeader = fault_data (codes "BadHeader") 40
told_data (told.BadRow row) = bad_row_data row
told_data (told.BadField row column) = bad_field_data row column
told_data told.ReadFailed = fault_data (codes "ReadFailed") 43

-- The text of an answer.
abbrev pub answer_text : Told → List ℕ
answer_text t = compact_text (told_data t)

-- The status that an answer has over HTTP.
abbrev pub answer_status : Told → ℕ
answer_status (told.Reply (reply.Done d)) = 200
answer_status (told.Reply (reply.Refused r)) = 422
answer_status told.Unreadable = 400
answer_status told.NumberReused = 409
answer_status told.BookFull = 507
answer_status told.NoMemory = 503
answer_status told.StoreFault = 503
answer_status told.Closed = 503
answer_status told.BadPath = 400
answer_status told.NoVersion = 422
answer_status told.BadHeader = 400
answer_status (told.BadRow row) = 400
answer_status (told.BadField row column) = 400
answer_status told.ReadFailed = 503
