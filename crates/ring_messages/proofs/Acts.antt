-- One word and one list of fields are of one act.
use Rattle.std.proofs.Common.{◌≡◌, ℕ, List, Err, Some, ap, codes, ◌∙◌}
use Rattle.serde_json.specs.Data.{Data, string}
use Rattle.serde_json.specs.Find.{get}
use Rattle.ring_words.specs.Limits.{greatest_long, greatest_short}
use Rattle.ring_words.specs.Spelling.{Reads}
use Rattle.ring_words.specs.declared.spelling.SpellingFault.{SpellingFault}
use Rattle.ring_words.specs.declared.device.Row.{Row}
use Rattle.ring_words.specs.declared.command.Foretold.{Foretold}
use Rattle.ring_words.specs.declared.command.NewRing.{NewRing}
use Rattle.ring_words.specs.declared.command.Act.{Act}
use Rattle.ring_words.specs.declared.command.Act.TheVariants.{Create, Add, OnDevice, RebalanceAs}
use Rattle.ring_words.specs.declared.command.Act.TheVariants.{Import, Rebalance, SetHours}
use Rattle.ring_words.specs.declared.command.Kind.{Kind}
use Rattle.ring_words.specs.declared.command.Kind.TheVariants as kind
use Rattle.ring_words.specs.declared.command.DeviceAct.TheVariants as device_act
use Rattle.ring_words.specs.declared.command.DeviceAct.TheVariants.{SetWeight}
use Rattle.ring_words.specs.Kinds.{act_kind}
use Rattle.ring_messages.specs.Commands.{act_fields}
use Rattle.ring_words.proofs.Spelled.{reads_err}
use Rattle.ring_messages.specs.Inner.Says.{HasFields, IsWeight, SaysAct}
use Rattle.ring_messages.specs.Reads.{IsNumber}
use Rattle.ring_messages.specs.Words.{kind_word}
use Rattle.ring_messages.proofs.FieldKinds.{Values, kinds, same_fields, values}
use Rattle.ring_messages.proofs.OneKind.{same_kind}
use Rattle.ring_messages.proofs.RowLists.{equal_rows}

-- ---- the records of an act, each made of what its fields hold

abbrev new_ring : ℕ → ℕ → ℕ → NewRing
new_ring p r m = record { power = p; replicas = r; min_hours = m }

equal_new_rings : (s t : NewRing) → s.power ≡ t.power → s.replicas ≡ t.replicas
    → s.min_hours ≡ t.min_hours → s ≡ t
equal_new_rings s t a b c = ap (λ (x : ℕ). new_ring x s.replicas s.min_hours) a
    ∙ ap (λ (x : ℕ). new_ring t.power x s.min_hours) b
    ∙ ap (λ (x : ℕ). new_ring t.power t.replicas x) c

abbrev foretold : ℕ → ℕ → ℕ → Foretold
foretold s v h = record { seed = s; version = v; hour = h }

equal_foretold : (s t : Foretold) → s.seed ≡ t.seed → s.version ≡ t.version → s.hour ≡ t.hour
    → s ≡ t
equal_foretold s t a b c = ap (λ (x : ℕ). foretold x s.version s.hour) a
    ∙ ap (λ (x : ℕ). foretold t.seed x s.hour) b
    ∙ ap (λ (x : ℕ). foretold t.seed t.version x) c

abbrev act_values : Act → Values
act_values a = values (act_fields a)

same_new_ring : (s t : NewRing) → act_values (Create s) ≡ act_values (Create t) → s ≡ t
same_new_ring s t e = equal_new_rings s t (cc) (cc) (cc)

same_row : (r q : Row) → act_values (Add r) ≡ act_values (Add q) → r ≡ q
same_row r q e = equal_rows r q (cc) (cc) (cc) (cc) (cc) (cc)

same_foretold : (s t : Foretold) → act_values (RebalanceAs s) ≡ act_values (RebalanceAs t) → s ≡ t
same_foretold s t e = equal_foretold s t (cc) (cc) (cc)

-- ---- acts of one command. An act that holds no record needs no line here, and none on a device.

same_kinds : (a b : Act) → act_kind a ≡ act_kind b
    → kinds (act_fields a) ≡ kinds (act_fields b)
same_kinds (Create s) (Create t) is = cc
same_kinds (OnDevice i (SetWeight w)) (OnDevice j (SetWeight v)) is = cc
same_kinds a (Create t) is = cc
same_kinds a (OnDevice j (SetWeight v)) is = cc
same_kinds a b is = cc

same_values : (a b : Act) → act_kind a ≡ act_kind b → act_values a ≡ act_values b → a ≡ b
same_values (Create s) (Create t) is e = ap Create (same_new_ring s t e)
same_values (Add r) (Add q) is e = ap Add (same_row r q e)
same_values (OnDevice i (SetWeight w)) (OnDevice j (SetWeight v)) is e = cc
same_values (RebalanceAs s) (RebalanceAs t) is e = ap RebalanceAs (same_foretold s t e)
same_values a (Create t) is e = cc
same_values a (OnDevice j (SetWeight v)) is e = cc
same_values a b is e = cc

-- one object asks for one act
pub same_act : (d : Data) (a b : Act) → SaysAct d a → SaysAct d b → a ≡ b
same_act d a b h k =
    let is = same_kind _ (act_kind a) (act_kind b) h.word k.word in
    same_values a b is
    (ap values
    (same_fields d (act_fields a) (act_fields b) (same_kinds a b is) h.fields k.fields))

-- ---- where a part of what a command asks for is bad, so is the whole

pub part_bad : {X : Type 0} (P : X → Type 0) (d : Data) (k : Kind) (e : SpellingFault)
    → get (codes "do") d ≡ Some (string (kind_word k)) → Reads P (Err e)
    → ((a : Act) → act_kind a ≡ k → HasFields d (act_fields a) → (x : X) × P x)
    → Reads (SaysAct d) (Err e)
part_bad P d k e word bad part =
    reads_err P (SaysAct d) e bad (λ a h. part a (same_kind _ (act_kind a) k h.word word) h.fields)

abbrev Number : Data → List ℕ → ℕ → ℕ → Type 0
Number d key most n = IsNumber (get key d) 0 most n

pub of_create : (d : Data) (a : Act) → act_kind a ≡ kind.Create → HasFields d (act_fields a)
    → (n : NewRing) × HasFields d (act_fields (Create n))
of_create d (Create n) is h = (n, h)
of_create d (OnDevice i (SetWeight w)) is h = cc
of_create d a is h = cc

pub of_add : (d : Data) (a : Act) → act_kind a ≡ kind.Add → HasFields d (act_fields a)
    → (r : Row) × HasFields d (act_fields (Add r))
of_add d (Add r) is h = (r, h)
of_add d (OnDevice i (SetWeight w)) is h = cc
of_add d a is h = cc

pub of_import : (d : Data) (a : Act) → act_kind a ≡ kind.Import → HasFields d (act_fields a)
    → (rs : List Row) × HasFields d (act_fields (Import rs))
of_import d (Import rs) is h = (rs, h)
of_import d (OnDevice i (SetWeight w)) is h = cc
of_import d a is h = cc

pub of_foretold : (d : Data) (a : Act) → act_kind a ≡ kind.RebalanceAs
    → HasFields d (act_fields a) → (t : Foretold) × HasFields d (act_fields (RebalanceAs t))
of_foretold d (RebalanceAs t) is h = (t, h)
of_foretold d (OnDevice i (SetWeight w)) is h = cc
of_foretold d a is h = cc

pub of_rebalance : (d : Data) (a : Act) → act_kind a ≡ kind.Rebalance → HasFields d (act_fields a)
    → (n : ℕ) × Number d (codes "seed") greatest_long n
of_rebalance d (Rebalance n) is h = (n, h.0)
of_rebalance d (OnDevice i (SetWeight w)) is h = cc
of_rebalance d a is h = cc

pub of_hours : (d : Data) (a : Act) → act_kind a ≡ kind.SetHours → HasFields d (act_fields a)
    → (n : ℕ) × Number d (codes "min_hours") greatest_short n
of_hours d (SetHours n) is h = (n, h.0)
of_hours d (OnDevice i (SetWeight w)) is h = cc
of_hours d a is h = cc

pub of_weight : (d : Data) (a : Act) → act_kind a ≡ kind.SetWeight → HasFields d (act_fields a)
    → (i : ℕ) × (w : ℕ) × Number d (codes "id") greatest_short i
    × IsWeight (get (codes "weight") d) w
of_weight d (OnDevice i (SetWeight w)) is h = (i, w, h.0, h.1.0)
of_weight d a is h = cc

pub of_remove : (d : Data) (a : Act) → act_kind a ≡ kind.Remove → HasFields d (act_fields a)
    → (i : ℕ) × Number d (codes "id") greatest_short i
of_remove d (OnDevice i device_act.Remove) is h = (i, h.0)
of_remove d (OnDevice i (SetWeight w)) is h = cc
of_remove d a is h = cc

pub of_keep : (d : Data) (a : Act) → act_kind a ≡ kind.Keep → HasFields d (act_fields a)
    → (i : ℕ) × Number d (codes "id") greatest_short i
of_keep d (OnDevice i device_act.Keep) is h = (i, h.0)
of_keep d (OnDevice i (SetWeight w)) is h = cc
of_keep d a is h = cc
