-- A rebalance that was foretold does what a plain one with its seed does, or nothing.
use Rattle.std.proofs.Common.{◌≡◌, ◌==◌, ◌∙◌, ℕ, Bool, false, true, List, [], ◌∷◌, Option, Some, None}
use Rattle.std.proofs.Common.{◌≤◌, ap, count_by, refl, subst, sym}
use Rattle.std.specs.Prelude.{nat_lt, not}
use Rattle.std.proofs.lemmas.Bool.{eq-eqb, eqb-true, le-ltb, not-false}
use Rattle.builder.specs.Preview.{IsAsForetold, Rebalances, as_foretold, asked_as, foretold_answer}
use Rattle.builder.specs.Preview.{foretold_of}
use Rattle.builder.specs.Step.{Cause, Effect, MovesAsForetold, State, Step, answer_at, causes}
use Rattle.builder.specs.Step.{first_cause, first_refusal, of_foretold}
use Rattle.builder.proofs.RingAt.{ring_at-with}
use Rattle.ring_model.specs.Ring.{RingRecord, risen}
use Rattle.ring_model.specs.Rings.{ring_at}
use Rattle.ring_place.specs.Rebalance.{changed_seats}
use Rattle.ring_place.specs.Seeded.{IsSeeded}
use Rattle.ring_place.proofs.Seeded.{one_seeded}
use Rattle.ring_share.specs.Figures.{ring_balance, ring_dispersion}
use Rattle.ring_share.specs.Want.{is_open}
use Rattle.ring_words.specs.declared.request.Limits.{Limits}
use Rattle.ring_words.specs.declared.command.Act.TheVariants as act
use Rattle.ring_words.specs.declared.command.Deed.TheVariants as deed
use Rattle.ring_words.specs.declared.command.Done.{Done}
use Rattle.ring_words.specs.declared.command.Foretold.{Foretold}
use Rattle.ring_words.specs.declared.command.Refusal.{Refusal}
use Rattle.ring_words.specs.declared.command.Refusal.TheVariants as refusal
use Rattle.ring_words.specs.declared.command.Reply.{Reply}
use Rattle.ring_words.specs.declared.command.Reply.TheVariants as reply

abbrev cause : Refusal → Bool → Cause
cause refused stands = record { refused = refused; stands = stands }

abbrev three : Refusal → Bool → Refusal → Bool → Refusal → Bool → List Cause
three p a q b r c = cause p a ∷ cause q b ∷ cause r c ∷ []

-- of three causes none stands
none_of_three : (p q r : Refusal) (a b c : Bool) → first_cause (three p a q b r c) ≡ None
    → (a ≡ false) × (b ≡ false) × (c ≡ false)
none_of_three p q r true b c e = cc
none_of_three p q r false true c e = cc
none_of_three p q r false false true e = cc
none_of_three p q r false false false e = (refl, refl, refl)

none_of_one : (p : Refusal) (a : Bool) → first_cause (cause p a ∷ []) ≡ None → a ≡ false
none_of_one p true e = cc
none_of_one p false e = refl

one_clear : (p : Refusal) (a : Bool) → a ≡ false
    → ◌≡◌ {A = Option Refusal} (first_cause (cause p a ∷ [])) None
one_clear p a e = rw e refl

three_clear : (p q r : Refusal) (a b c : Bool) → a ≡ false → b ≡ false → c ≡ false
    → ◌≡◌ {A = Option Refusal} (first_cause (three p a q b r c)) None
three_clear p q r a b c e f g = rw (e, f, g) refl

-- whether too few devices of a ring are open
abbrev few : RingRecord → Bool
few ring = nat_lt (count_by is_open ring.devices) ring.replicas

-- what is told of a plain rebalance that gives this ring
abbrev plain_at : RingRecord → RingRecord → Done
plain_at old new =
    answer_at new (deed.Rebalance (ring_balance new) (changed_seats old new) (ring_dispersion new))

-- The same of a ring, or of none: a plain rebalance with the seed is done as well.
record IsPlain (limits : Limits) (rings : State) (hour : ℕ) (name : List ℕ) (told : Foretold)
    (o : Option RingRecord) (answer : Done) (new : RingRecord) : Type 0 where
  plain : Done
  clear : first_cause (causes limits rings hour o (act.Rebalance told.seed)) ≡ None
  effect : Effect name hour o (act.Rebalance told.seed) plain new
  same : answer ≡ as_foretold plain
  version : answer.version ≡ told.version
  hour_told : hour ≡ told.hour

plain_of : (limits : Limits) (rings : State) (hour : ℕ) (name : List ℕ) (told : Foretold)
    (o : Option RingRecord) (answer : Done) (new : RingRecord)
    → first_cause (causes limits rings hour o (act.RebalanceAs told)) ≡ None
    → Effect name hour o (act.RebalanceAs told) answer new
    → IsPlain limits rings hour name told o answer new
plain_of limits rings hour name told None answer new clear effect = absurd effect
plain_of limits rings hour name told (Some old) answer new clear effect =
    let none = none_of_three refusal.TooFewDevices refusal.OtherVersion refusal.OtherHour (few old)
    (not (risen old.version == told.version)) (not (hour == told.hour)) clear in
    record {
      plain = plain_at old new;
      clear = one_clear refusal.TooFewDevices (few old) none.0;
      effect = (effect.0, refl, effect.2);
      same = effect.1;
      version = ap (λ (x : Done). x.version) effect.1 ∙ effect.0.after.version
          ∙ eqb-true (risen old.version) told.version (not-false _ none.1);
      hour_told = eqb-true hour told.hour (not-false _ none.2);
    }

pub is_as_told : (limits : Limits) (rings after : State) (hour : ℕ) (name : List ℕ)
    (told : Foretold) (answer : Done)
    → Step limits rings hour (foretold_of name told) (reply.Done answer) after
    → IsAsForetold limits rings hour name told answer after
is_as_told limits rings after hour name told answer step =
    let is = plain_of limits rings hour name told (ring_at name rings) answer step.1.0 step.0
    step.1.1 in
    record {
      plain = is.plain;
      is = (is.clear, (step.1.0, is.effect, step.1.2));
      same = is.same;
      version = is.version;
      hour_told = is.hour_told;
    }

-- and of a plain one at the hour that leaves the version that was told
foretold_by : (limits : Limits) (rings : State) (hour : ℕ) (name : List ℕ) (told : Foretold)
    (o : Option RingRecord) (plain : Done) (new : RingRecord)
    → first_cause (causes limits rings hour o (act.Rebalance told.seed)) ≡ None
    → Effect name hour o (act.Rebalance told.seed) plain new
    → plain.version ≡ told.version → hour ≡ told.hour
    → (first_cause (causes limits rings hour o (act.RebalanceAs told)) ≡ None)
    × Effect name hour o (act.RebalanceAs told) (as_foretold plain) new
foretold_by limits rings hour name told None plain new clear effect version same = absurd effect
foretold_by limits rings hour name told (Some old) plain new clear effect version same =
    let enough = none_of_one refusal.TooFewDevices (few old) clear in
    let risen_is : risen old.version ≡ told.version =
    sym effect.0.after.version ∙ sym (ap (λ (x : Done). x.version) effect.1) ∙ version in (
      three_clear refusal.TooFewDevices refusal.OtherVersion refusal.OtherHour (few old)
          (not (risen old.version == told.version)) (not (hour == told.hour)) enough
          (ap not (eq-eqb (risen old.version) told.version risen_is))
          (ap not (eq-eqb hour told.hour same)),
      (effect.0, ap as_foretold effect.1, effect.2),
    )

pub does_as_told : (limits : Limits) (rings after : State) (hour : ℕ) (name : List ℕ)
    (told : Foretold) (plain : Done)
    → Rebalances limits rings hour name told.seed (reply.Done plain) after
    → plain.version ≡ told.version → hour ≡ told.hour
    → Step limits rings hour (foretold_of name told) (reply.Done (as_foretold plain)) after
does_as_told limits rings after hour name told plain step version same =
    let is = foretold_by limits rings hour name told (ring_at name rings) plain step.1.0 step.0
    step.1.1 version same in
    (is.0, (step.1.0, is.1, step.1.2))

-- ---- by the ring that a seed gives

-- where enough devices are open, nothing stands against it at its hour
nothing_against : (hour seed : ℕ) (old new : RingRecord)
    → old.replicas ≤ count_by is_open old.devices → IsSeeded old hour seed new
    → ◌≡◌ {A = Option Refusal} (first_cause (of_foretold hour (asked_as hour seed new) old)) None
nothing_against hour seed old new enough seeded =
    let rises : risen old.version ≡ new.version =
    sym (ap (λ (r : RingRecord). r.version) seeded.is) in
    three_clear refusal.TooFewDevices refusal.OtherVersion refusal.OtherHour (few old)
    (not (risen old.version == new.version)) (not (hour == hour))
    (le-ltb (count_by is_open old.devices) old.replicas enough)
    (ap not (eq-eqb (risen old.version) new.version rises)) (ap not (eq-eqb hour hour refl))

-- why it is refused, if it is, by the ring of its name
against_at : (limits : Limits) (rings : State) (hour : ℕ) (name : List ℕ) (told : Foretold)
    (old : RingRecord) → ring_at name rings ≡ Some old
    → first_refusal limits rings hour (foretold_of name told) ≡ first_cause (of_foretold hour told
    old)
against_at limits rings hour name told old at =
    ap (λ (o : Option RingRecord). first_cause (causes limits rings hour o (act.RebalanceAs told))) at

-- so it gives that ring
pub gives_foretold : (limits : Limits) (rings after : State) (hour : ℕ) (name : List ℕ) (seed : ℕ)
    (answer : Reply) (old new : RingRecord) → ring_at name rings ≡ Some old
    → old.replicas ≤ count_by is_open old.devices → IsSeeded old hour seed new
    → Step limits rings hour (foretold_of name (asked_as hour seed new)) answer after
    → (answer ≡ reply.Done (foretold_answer old new)) × (ring_at name after ≡ Some new)
gives_foretold limits rings after hour name seed (reply.Refused refused) old new at enough seeded
    step =
    let none : ◌≡◌ {A = Option Refusal} (Some refused) None =
    sym step.0 ∙ against_at limits rings hour name (asked_as hour seed new) old at
    ∙ nothing_against hour seed old new enough seeded in
    absurd (cc none)
gives_foretold limits rings after hour name seed (reply.Done answer) old new at enough seeded step =
    let moves : MovesAsForetold hour (asked_as hour seed new) old answer step.1.0 =
    subst (λ o. Effect name hour o (act.RebalanceAs (asked_as hour seed new)) answer step.1.0) at
    step.1.1 in
    let one : step.1.0 ≡ new = one_seeded old step.1.0 new hour seed moves.2 seeded in (
      ap reply.Done (moves.1 ∙ ap (foretold_answer old) one),
      ap (ring_at name) step.1.2 ∙ ring_at-with rings name step.1.0 ∙ ap Some one,
    )
