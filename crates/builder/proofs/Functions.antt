-- Each step of the builder is a function of what it finds.
use Rattle.std.proofs.Common.{◌≡◌, ◌∙◌, ◌⊎◌, ◌+◌, ◌*◌, ◌/◌, ◌%◌, ◌<◌, List, None, Option, Some, ap}
use Rattle.std.proofs.Common.{arith, inl, inr, length, refl, subst, suc, sym, zero, ℕ}
use Rattle.std.specs.Prelude.{slice_get}
use Rattle.std.proofs.lemmas.List.{get_or_default, same_lists}
use Rattle.std.proofs.lemmas.Nat.{div-add-mod'}
use Rattle.std.proofs.lemmas.Option.{same_Some, slice_get-get_or}
use Rattle.builder.specs.Safety.{AreValid}
use Rattle.builder.specs.Step.{CountsRows, Effect, ImportsRows, NoRingEffect, RaisesPower}
use Rattle.builder.specs.Step.{RingEffect, State, Step, answer_at}
use Rattle.builder.proofs.Previews.{one_foretold, one_rebalance}
use Rattle.builder.proofs.ValidRings.{valid_at}
use Rattle.ring_model.specs.Raise.{IsRaised}
use Rattle.ring_model.specs.Ring.{RingRecord, moved_at, seat}
use Rattle.ring_model.specs.Rings.{ring_at, with_ring}
use Rattle.ring_model.specs.Valid.{IsValid}
use Rattle.ring_words.specs.declared.request.Limits.{Limits}
use Rattle.ring_words.specs.declared.command.Act.{Act}
use Rattle.ring_words.specs.declared.command.Act.TheVariants as act
use Rattle.ring_words.specs.declared.command.Command.{Command}
use Rattle.ring_words.specs.declared.command.Deed.{Deed}
use Rattle.ring_words.specs.declared.command.Deed.TheVariants as deed
use Rattle.ring_words.specs.declared.command.Done.{Done}
use Rattle.ring_words.specs.declared.command.Reply.{Reply}
use Rattle.ring_words.specs.declared.command.Reply.TheVariants as reply
use Rattle.ring_words.specs.declared.device.Row.{Row}

-- a number is even or odd
halves_by : (k half rest : ℕ) → k ≡ 2 * half + rest → rest < 2
    → (k ≡ 2 * half) ⊎ (k ≡ 2 * half + 1)
halves_by k half zero is below = inl (omega arith)
halves_by k half (suc zero) is below = inr is
halves_by k half (suc (suc rest)) is below = absurd (omega arith)

halves : (k : ℕ) → (k ≡ 2 * (k / 2)) ⊎ (k ≡ 2 * (k / 2) + 1)
halves k = halves_by k (k / 2) (k % 2) (omega arith) (omega arith)

-- lists of one length with the same at each place are one
by_places : {X : Type 0} (xs ys : List X) → length xs ≡ length ys
    → ((k : ℕ) → slice_get xs k ≡ slice_get ys k) → xs ≡ ys
by_places xs ys count at = same_lists xs ys count (λ k d within.
    (let there : k < length ys = omega arith in
    same_Some _ _ (sym (slice_get-get_or xs k d within) ∙ at k ∙ slice_get-get_or ys k d there)))

-- two rings that come of one by raising its power are one
module _ (old new other : RingRecord) (some : 0 < old.replicas) (p : IsRaised old new)
    (q : IsRaised old other) where
  same_seat : (partition replica : ℕ) → replica < old.replicas
      → seat new partition replica ≡ seat other partition replica
  same_seat partition replica within = elim (halves partition) [
    | inl even ↦ subst (λ n. seat new n replica ≡ seat other n replica) (sym even)
        ((p.seats (partition / 2) replica within).0
        ∙ sym (q.seats (partition / 2) replica within).0)
    | inr odd ↦ subst (λ n. seat new n replica ≡ seat other n replica) (sym odd)
        ((p.seats (partition / 2) replica within).1
        ∙ sym (q.seats (partition / 2) replica within).1)
  ]

  same_moved : (partition : ℕ) → moved_at new partition ≡ moved_at other partition
  same_moved partition = elim (halves partition) [
    | inl even ↦ subst (λ n. moved_at new n ≡ moved_at other n) (sym even)
        ((p.moved (partition / 2)).0 ∙ sym (q.moved (partition / 2)).0)
    | inr odd ↦ subst (λ n. moved_at new n ≡ moved_at other n) (sym odd)
        ((p.moved (partition / 2)).1 ∙ sym (q.moved (partition / 2)).1)
  ]

  -- each place is that of a seat
  at_width : (raised : RingRecord) → IsRaised old raised → (k : ℕ)
      → seat raised (k / old.replicas) (k % old.replicas) ≡ slice_get raised.seats k
  at_width raised is k =
      let width : raised.replicas ≡ old.replicas = ap (λ (r : RingRecord). r.replicas) is.rest in
      ap (λ (n : ℕ). slice_get raised.seats (k / old.replicas * n + k % old.replicas)) width
      ∙ ap (slice_get raised.seats) (div-add-mod' k old.replicas)

  same_seats : new.seats ≡ other.seats
  same_seats = by_places new.seats other.seats (p.seat_count ∙ sym q.seat_count) (λ k.
      (let within : k % old.replicas < old.replicas = omega arith in
      sym (at_width new p k) ∙ same_seat (k / old.replicas) (k % old.replicas) within
      ∙ at_width other q k))

  all_moved : new.moved ≡ other.moved
  all_moved = same_lists new.moved other.moved (p.moved_count ∙ sym q.moved_count) (λ k d within.
      (let there : k < length other.moved = omega (arith, p.moved_count, q.moved_count) in
      get_or_default new.moved k d None within ∙ same_moved k
      ∙ get_or_default other.moved k None d there))

  one_raised : new ≡ other
  one_raised = λ i. record ((p.rest ∙ sym q.rest) i) {
    power = (p.power ∙ sym q.power) i;
    version = (p.version ∙ sym q.version) i;
    seats = same_seats i;
    moved = all_moved i;
  }

-- what two effects of one act have in common
abbrev AreOne : Done → Done → RingRecord → RingRecord → Type 0
AreOne answer also new other = (answer ≡ also) × (new ≡ other)

-- the ring and the deed are said outright
by_equations : (left : RingRecord) (what : Deed) (answer also : Done) (new other : RingRecord)
    → (new ≡ left) × (answer ≡ answer_at new what)
    → (other ≡ left) × (also ≡ answer_at other what) → AreOne answer also new other
by_equations left what answer also new other one two =
    let same = one.0 ∙ sym two.0 in
    (one.1 ∙ ap (λ (r : RingRecord). answer_at r what) same ∙ sym two.1, same)

one_count : (rows : List Row) (old new other : RingRecord) (what also : Deed) → new ≡ other
    → CountsRows rows old new what → CountsRows rows old other also → what ≡ also
one_count rows old new other (deed.Import added reweighted) (deed.Import more less) same one two =
    let next : new.next_id ≡ other.next_id = ap (λ (r : RingRecord). r.next_id) same in
    let numbered : added ≡ more = omega (arith, one.0, two.0) in
    let weighed : reweighted ≡ less = omega (arith, one.1, two.1) in
    cc
one_count rows old new other (deed.Import added reweighted) also same one two = absurd two
one_count rows old new other what also same one two = absurd one

one_import : (rows : List Row) (old : RingRecord) (answer also : Done) (new other : RingRecord)
    → ImportsRows rows old answer new → ImportsRows rows old also other
    → AreOne answer also new other
one_import rows old answer also new other one two =
    let same : new ≡ other = one.0 ∙ sym two.0 in
    let deeds = one_count rows old new other answer.deed also.deed same one.2 two.2 in (
      one.1 ∙ ap (λ (r : RingRecord). answer_at r answer.deed) same
          ∙ ap (answer_at other) deeds ∙ sym two.1,
      same,
    )

one_raise : (old : RingRecord) (answer also : Done) (new other : RingRecord) → 0 < old.replicas
    → RaisesPower old answer new → RaisesPower old also other → AreOne answer also new other
one_raise old answer also new other some one two =
    let same = one_raised old new other some one.0 two.0 in
    (one.1 ∙ ap (λ (r : RingRecord). answer_at r deed.RaisePower) same ∙ sym two.1, same)

-- an act on a valid ring has one effect
one_change : (name : List ℕ) (hour : ℕ) (old : RingRecord) (a : Act) (answer also : Done)
    (new other : RingRecord) → IsValid old → RingEffect name hour old a answer new
    → RingEffect name hour old a also other → AreOne answer also new other
one_change name hour old (act.Create made) answer also new other valid one two = absurd one
one_change name hour old (act.Add row) answer also new other valid one two =
    by_equations _ _ answer also new other one two
one_change name hour old (act.OnDevice id what) answer also new other valid one two =
    by_equations _ _ answer also new other one two
one_change name hour old (act.SetHours hours) answer also new other valid one two =
    by_equations _ _ answer also new other one two
one_change name hour old act.PretendPassed answer also new other valid one two =
    by_equations _ _ answer also new other one two
one_change name hour old act.RaisePower answer also new other valid one two =
    one_raise old answer also new other valid.replicas.0 one two
one_change name hour old (act.Import rows) answer also new other valid one two =
    one_import rows old answer also new other one two
one_change name hour old (act.Rebalance seed) answer also new other valid one two =
    one_rebalance name hour seed (Some old) answer also new other one two
one_change name hour old (act.RebalanceAs told) answer also new other valid one two =
    one_foretold name hour told (Some old) answer also new other one two
one_change name hour old act.Publish answer also new other valid one two =
    by_equations _ _ answer also new other one two

-- and so has an act where no ring has the name
one_making : (a : Act) (answer also : Done) (new other : RingRecord) → NoRingEffect a answer new
    → NoRingEffect a also other → AreOne answer also new other
one_making (act.Create made) answer also new other one two =
    by_equations _ _ answer also new other one two
one_making a answer also new other one two = absurd one

one_effect : (name : List ℕ) (hour : ℕ) (rings : State) (found : Option RingRecord) (a : Act)
    (answer also : Done) (new other : RingRecord) → AreValid rings → ring_at name rings ≡ found
    → Effect name hour found a answer new → Effect name hour found a also other
    → AreOne answer also new other
one_effect name hour rings None a answer also new other valid is one two =
    one_making a answer also new other one two
one_effect name hour rings (Some old) a answer also new other valid is one two =
    one_change name hour old a answer also new other (valid_at rings name old valid.each is) one two

pub step_is_one : (limits : Limits) (rings left after : State) (hour : ℕ) (command : Command)
    (told other : Reply) → AreValid rings → Step limits rings hour command told left
    → Step limits rings hour command other after → (told ≡ other) × (left ≡ after)
step_is_one limits rings left after hour command (reply.Refused a) (reply.Refused b) valid one two =
    (ap reply.Refused (same_Some a b (sym one.0 ∙ two.0)), one.1 ∙ sym two.1)
step_is_one limits rings left after hour command (reply.Refused a) (reply.Done b) valid one two =
    absurd (cc (one.0, two.0))
step_is_one limits rings left after hour command (reply.Done a) (reply.Refused b) valid one two =
    absurd (cc (one.0, two.0))
step_is_one limits rings left after hour command (reply.Done a) (reply.Done b) valid one two =
    let same = one_effect command.ring hour rings (ring_at command.ring rings) command.act a b
    one.1.0 two.1.0 valid refl one.1.1 two.1.1 in (
      ap reply.Done same.0,
      one.1.2 ∙ ap (with_ring rings command.ring) same.1 ∙ sym two.1.2,
    )
