-- What is told of a whole ring.
use Rattle.std.proofs.Common.{◌≡◌, ℕ, List, [], ◌∷◌, ◌++◌, refl, ap}
use Rattle.std.specs.declared.alloc.Global.{Global}
use Rattle.std.specs.declared.rc.RcStr.{RcStr}
use Rattle.json.specs.Token.{Token}
use Rattle.serde_json.specs.Data.{Data}
use Rattle.ring_messages.specs.Fields.{whole}
use Rattle.ring_messages.specs.Objects.{data_tokens}
use Rattle.ring_model.specs.Parts.{texts_of}
use Rattle.ring_model.specs.Ring.{RingRecord}
use Rattle.ring_share.specs.Room.{have}
use Rattle.ring_words.specs.declared.device.Device.{Device}
use Rattle.ring_reads.specs.Inner.Lists.{told_tokens}
use Rattle.ring_reads.specs.RingJson.{device_data}

-- what is told of a device beside what it wants
abbrev pub pair_data : RingRecord → Device × ℕ → Data
pair_data ring e = device_data e.0 e.1 (have ring e.0.id)

-- what is told of a version, which stands before its text
abbrev pub version_data : {X : Type 0} → ℕ × X → Data
version_data text = whole text.0

-- a version alone, whatever its text
pub versions_of : (published : List (ℕ × RcStr Global)) →
    told_tokens version_data published ≡ told_tokens version_data (texts_of published)
versions_of [] = refl
versions_of (text ∷ published) =
    ap (λ (ts : List Token). data_tokens (whole text.0) ++ ts) (versions_of published)
