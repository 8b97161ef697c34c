-- What is told of the rings.
use Rattle.std.proofs.Common.{◌≡◌, ℕ, List, [], ◌∷◌, ◌++◌, refl, ap}
use Rattle.std.specs.declared.alloc.Global.{Global}
use Rattle.std.specs.declared.rc.Rc.{Rc}
use Rattle.json.specs.Token.{Token}
use Rattle.serde_json.specs.Data.{Data}
use Rattle.ring_messages.specs.Objects.{data_tokens}
use Rattle.ring_model.specs.Rings.{seen}
use Rattle.ring_model.specs.declared.ring.Ring.{Ring}
use Rattle.ring_reads.specs.Inner.Lists.{told_tokens}
use Rattle.ring_reads.specs.StoreJson.{listed_data}

-- what is told of a shared ring
abbrev pub shared_data : List ℕ × Rc Ring Global → Data
shared_data entry = listed_data (entry.0, entry.1.value)

pub told_seen : (entries : List (List ℕ × Rc Ring Global)) →
    told_tokens shared_data entries ≡ told_tokens listed_data (seen entries)
told_seen [] = refl
told_seen (entry ∷ entries) =
    ap (λ (ts : List Token). data_tokens (shared_data entry) ++ ts) (told_seen entries)
