-- Of the same ring, at the same hour and with the same seed, a rebalance is one and the same.
use Rattle.std.proofs.Common.{◌≡◌, ◌<◌, ◌≤◌, ◌∙◌, ℕ, List, Option, Some, None, ap, count_by, refl}
use Rattle.std.proofs.Common.{subst, sym}
use Rattle.std.proofs.lemmas.Bool.{le-ltb, lt-ltb}
use Rattle.std.proofs.lemmas.Option.{same_Some}
use Rattle.builder.specs.Preview.{IsOnly, Rebalances, rebalance_of}
use Rattle.builder.specs.Step.{Effect, MovesSeats, State, Step, answer_at, causes, first_cause}
use Rattle.builder.specs.Step.{first_refusal, of_rebalance}
use Rattle.builder.proofs.RingAt.{ring_at-with}
use Rattle.ring_model.specs.Ring.{RingRecord}
use Rattle.ring_model.specs.Rings.{ring_at}
use Rattle.ring_place.specs.Rebalance.{changed_seats}
use Rattle.ring_place.specs.Seeded.{IsSeeded}
use Rattle.ring_place.proofs.Seeded.{one_seeded}
use Rattle.ring_share.specs.Figures.{ring_balance, ring_dispersion}
use Rattle.ring_share.specs.Want.{is_open}
use Rattle.ring_words.specs.declared.request.Limits.{Limits}
use Rattle.ring_words.specs.declared.command.Act.TheVariants as act
use Rattle.ring_words.specs.declared.command.Done.{Done}
use Rattle.ring_words.specs.declared.command.Deed.{Deed}
use Rattle.ring_words.specs.declared.command.Deed.TheVariants as deed
use Rattle.ring_words.specs.declared.command.Foretold.{Foretold}
use Rattle.ring_words.specs.declared.command.Refusal.{Refusal}
use Rattle.ring_words.specs.declared.command.Refusal.TheVariants as refusal
use Rattle.ring_words.specs.declared.command.Reply.{Reply}
use Rattle.ring_words.specs.declared.command.Reply.TheVariants as reply

-- one ring rebalanced at one hour with one seed is one ring, of which one deed is told
one_seed : (hour seed : ℕ) (old : RingRecord) (what : RingRecord → Deed) (answer also : Done)
    (new other : RingRecord) → answer ≡ answer_at new (what new) → also ≡ answer_at other (what other)
    → IsSeeded old hour seed new → IsSeeded old hour seed other → (answer ≡ also) × (new ≡ other)
one_seed hour seed old what answer also new other told tells seeded seeds =
    let same = one_seeded old new other hour seed seeded seeds in
    (told ∙ ap (λ (r : RingRecord). answer_at r (what r)) same ∙ sym tells, same)

pub one_rebalance : (name : List ℕ) (hour seed : ℕ) (o : Option RingRecord) (answer also : Done)
    (new other : RingRecord) → Effect name hour o (act.Rebalance seed) answer new
    → Effect name hour o (act.Rebalance seed) also other → (answer ≡ also) × (new ≡ other)
one_rebalance name hour seed None answer also new other e f = absurd e
one_rebalance name hour seed (Some old) answer also new other e f =
    one_seed hour seed old
    (λ r. deed.Rebalance (ring_balance r) (changed_seats old r) (ring_dispersion r)) answer also new
    other e.1 f.1 e.2 f.2

pub one_foretold : (name : List ℕ) (hour : ℕ) (told : Foretold) (o : Option RingRecord)
    (answer also : Done) (new other : RingRecord)
    → Effect name hour o (act.RebalanceAs told) answer new
    → Effect name hour o (act.RebalanceAs told) also other → (answer ≡ also) × (new ≡ other)
one_foretold name hour told None answer also new other e f = absurd e
one_foretold name hour told (Some old) answer also new other e f =
    one_seed hour told.seed old
    (λ r. deed.RebalanceAs (ring_balance r) (changed_seats old r) (ring_dispersion r)) answer also
    new other e.1 f.1 e.2 f.2

same_causes : (limits : Limits) (rings others : State) (hour seed : ℕ) (o : Option RingRecord) →
    causes limits others hour o (act.Rebalance seed) ≡ causes limits rings hour o (act.Rebalance seed)
same_causes limits rings others hour seed None = refl
same_causes limits rings others hour seed (Some old) = refl

same_refusal : (limits : Limits) (rings others : State) (hour : ℕ) (name : List ℕ) (seed : ℕ) →
    ring_at name others ≡ ring_at name rings →
    first_refusal limits others hour (rebalance_of name seed) ≡ first_refusal limits rings hour
    (rebalance_of name seed)
same_refusal limits rings others hour name seed same =
    ap (λ o. first_cause (causes limits others hour o (act.Rebalance seed))) same
    ∙ ap first_cause (same_causes limits rings others hour seed (ring_at name rings))

pub one_step : (limits : Limits) (rings : State) (hour : ℕ) (name : List ℕ) (seed : ℕ)
    (told : Reply) (left : State) → Step limits rings hour (rebalance_of name seed) told left
    → IsOnly limits rings hour name seed told left
one_step limits rings hour name seed (reply.Refused a) left step others (reply.Refused b) after same
    other = (
      ap reply.Refused (same_Some b a
          (sym other.0 ∙ same_refusal limits rings others hour name seed same ∙ step.0)),
      ap (ring_at name) other.1 ∙ same ∙ ap (ring_at name) (sym step.1),
    )
one_step limits rings hour name seed (reply.Refused a) left step others (reply.Done b) after same
    other =
    absurd (cc (step.0, other.0, same_refusal limits rings others hour name seed same))
one_step limits rings hour name seed (reply.Done a) left step others (reply.Refused b) after same
    other =
    absurd (cc (step.0, other.0, same_refusal limits rings others hour name seed same))
one_step limits rings hour name seed (reply.Done a) left step others (reply.Done b) after same
    other =
    let one = one_rebalance name hour seed (ring_at name rings) b a other.1.0 step.1.0
    (subst (λ o. Effect name hour o (act.Rebalance seed) b other.1.0) same other.1.1) step.1.1 in (
      ap reply.Done one.0,
      ap (ring_at name) other.1.2 ∙ ring_at-with others name other.1.0 ∙ ap Some one.1
          ∙ sym (ring_at-with rings name step.1.0) ∙ ap (ring_at name) (sym step.1.2),
    )

-- ---- by the ring that a seed gives

-- why a rebalance is refused, if it is, by the ring of its name
refusal_of : (limits : Limits) (rings : State) (hour : ℕ) (name : List ℕ) (seed : ℕ)
    (o : Option RingRecord) → ring_at name rings ≡ o
    → first_refusal limits rings hour (rebalance_of name seed) ≡ first_cause
    (causes limits rings hour o (act.Rebalance seed))
refusal_of limits rings hour name seed o at =
    ap (λ (r : Option RingRecord). first_cause (causes limits rings hour r (act.Rebalance seed))) at

few_refused : (ring : RingRecord) → count_by is_open ring.devices < ring.replicas →
    first_cause (of_rebalance ring) ≡ Some refusal.TooFewDevices
few_refused ring few = rw (lt-ltb (count_by is_open ring.devices) ring.replicas few) refl

enough_pass : (ring : RingRecord) → ring.replicas ≤ count_by is_open ring.devices →
    ◌≡◌ {A = Option Refusal} (first_cause (of_rebalance ring)) None
enough_pass ring enough = rw (le-ltb (count_by is_open ring.devices) ring.replicas enough) refl

-- The reply is that of a rebalance that gives the new ring, which stands under the name in the
-- rings after it.
abbrev pub GivesRing : ℕ → ℕ → List ℕ → RingRecord → RingRecord → Reply → State → Type 0
GivesRing hour seed name old new (reply.Refused refused) after = ⊥
GivesRing hour seed name old new (reply.Done answer) after =
    MovesSeats hour seed old answer new × (ring_at name after ≡ Some new)

-- where enough devices are open, each rebalance gives the ring of its seed
pub gives_ring : (limits : Limits) (rings : State) (hour : ℕ) (name : List ℕ) (seed : ℕ)
    (told : Reply) (after : State) (old new : RingRecord) → ring_at name rings ≡ Some old →
    old.replicas ≤ count_by is_open old.devices → IsSeeded old hour seed new →
    Rebalances limits rings hour name seed told after
    → GivesRing hour seed name old new told after
gives_ring limits rings hour name seed (reply.Refused refused) after old new at enough seeded step =
    let none : ◌≡◌ {A = Option Refusal} (Some refused) None =
    sym step.0 ∙ refusal_of limits rings hour name seed (Some old) at ∙ enough_pass old enough in
    absurd (cc none)
gives_ring limits rings hour name seed (reply.Done answer) after old new at enough seeded step =
    let effect : MovesSeats hour seed old answer step.1.0 =
    subst (λ o. Effect name hour o (act.Rebalance seed) answer step.1.0) at step.1.1 in
    let one : step.1.0 ≡ new = one_seeded old step.1.0 new hour seed effect.2 seeded in (
      subst (λ (ring : RingRecord). MovesSeats hour seed old answer ring) one effect,
      ap (ring_at name) step.1.2 ∙ ring_at-with rings name step.1.0 ∙ ap Some one,
    )

-- where too few are, each is refused so
pub refused_few : (limits : Limits) (rings : State) (hour : ℕ) (name : List ℕ) (seed : ℕ)
    (told : Reply) (after : State) (old : RingRecord) → ring_at name rings ≡ Some old →
    count_by is_open old.devices < old.replicas → Rebalances limits rings hour name seed told after
    → told ≡ reply.Refused refusal.TooFewDevices
refused_few limits rings hour name seed (reply.Refused refused) after old at few step =
    ap reply.Refused (same_Some refused refusal.TooFewDevices (sym step.0
    ∙ refusal_of limits rings hour name seed (Some old) at ∙ few_refused old few))
refused_few limits rings hour name seed (reply.Done answer) after old at few step =
    let some : ◌≡◌ {A = Option Refusal} None (Some refusal.TooFewDevices) =
    sym step.0 ∙ refusal_of limits rings hour name seed (Some old) at ∙ few_refused old few in
    absurd (cc some)

-- and where there is no ring of the name
pub refused_missing : (limits : Limits) (rings : State) (hour : ℕ) (name : List ℕ) (seed : ℕ)
    (told : Reply) (after : State) → ring_at name rings ≡ None →
    Rebalances limits rings hour name seed told after → told ≡ reply.Refused refusal.NoRing
refused_missing limits rings hour name seed (reply.Refused refused) after at step =
    ap reply.Refused (same_Some refused refusal.NoRing (sym step.0
    ∙ refusal_of limits rings hour name seed None at))
refused_missing limits rings hour name seed (reply.Done answer) after at step =
    let some : ◌≡◌ {A = Option Refusal} None (Some refusal.NoRing) =
    sym step.0 ∙ refusal_of limits rings hour name seed None at in
    absurd (cc some)
