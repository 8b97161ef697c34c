-- How few replicas leave in a step that rebalances.
use Rattle.std.proofs.Common.{◌≡◌, ℕ, false, true, List, Option, Some, None, refl, subst}
use Rattle.ring_model.specs.Ring.{RingRecord}
use Rattle.ring_model.specs.Rings.{ring_at, with_ring}
use Rattle.ring_words.specs.declared.request.Limits.{Limits}
use Rattle.ring_words.specs.declared.command.Command.{Command}
use Rattle.ring_words.specs.declared.command.Act.{Act}
use Rattle.ring_words.specs.declared.command.Act.TheVariants as act
use Rattle.ring_words.specs.declared.command.Done.{Done}
use Rattle.ring_words.specs.declared.command.Reply.{Reply}
use Rattle.ring_words.specs.declared.command.Reply.TheVariants as reply
use Rattle.request_book.specs.declared.entry.Entry.{Entry}
use Rattle.ring_place.specs.Rebalance.{IsRebalance}
use Rattle.ring_place.proofs.Lawful.{lawful, one_leaves, unlocked_leave}
use Rattle.builder.specs.Safety.{FewLeft, HasRebalanced, IsDone, LeavesFew, is_rebalance}
use Rattle.builder.specs.Step.{Effect, NoRingEffect, RingEffect, State, Step, is_refused}

leaves : (old new : RingRecord) (hour : ℕ) → IsRebalance old hour new → LeavesFew old hour new
leaves old new hour is = let l = lawful old new hour is in record {
  one = λ partition replica other. one_leaves old new hour partition replica other l;
  unlocked = λ partition replica. unlocked_leave old new hour partition replica l;
}

-- what rebalances a ring gives a rebalance of it
pub rebalanced_by : (a : Act) (name : List ℕ) (hour : ℕ) (old : RingRecord) (answer : Done)
    (new : RingRecord) → is_rebalance a ≡ true → RingEffect name hour old a answer new
    → IsRebalance old hour new
rebalanced_by (act.Rebalance seed) name hour old answer new is effect = effect.0
rebalanced_by (act.RebalanceAs told) name hour old answer new is effect = effect.0
rebalanced_by (act.Create made) name hour old answer new is effect = cc
rebalanced_by a name hour old answer new is effect = cc

-- and needs one
none_by : (a : Act) (answer : Done) (new : RingRecord) → is_rebalance a ≡ true
    → NoRingEffect a answer new → ⊥
none_by (act.Create made) answer new is effect = cc
none_by a answer new is effect = effect

by_ring : (rings after : State) (name : List ℕ) (hour : ℕ) (a : Act) (found : Option RingRecord)
    (answer : Done) (new : RingRecord) → is_rebalance a ≡ true → ring_at name rings ≡ found
    → Effect name hour found a answer new → after ≡ with_ring rings name new
    → FewLeft rings name hour after
by_ring rings after name hour a (Some old) answer new is was effect put = record {
  old = old;
  new = new;
  was = was;
  is = put;
  few = leaves old new hour (rebalanced_by a name hour old answer new is effect);
}
by_ring rings after name hour a None answer new is was effect put =
    absurd (none_by a answer new is effect)

pub few_left : (limits : Limits) (rings after : State) (hour : ℕ) (command : Command) (answer : Done)
    → is_rebalance command.act ≡ true → Step limits rings hour command (reply.Done answer) after
    → FewLeft rings command.ring hour after
few_left limits rings after hour command answer is step =
    let done = step.1 in
    by_ring rings after command.ring hour command.act (ring_at command.ring rings) answer done.0 is
    refl done.1 done.2

-- ---- of an entry

pub done_answer : (r : Reply) → is_refused r ≡ false → (answer : Done) × (r ≡ reply.Done answer)
done_answer (reply.Done answer) is = (answer, refl)
done_answer (reply.Refused refused) is = cc

-- the step of an act that was done, with its words put in their places
pub done_step : (limits : Limits) (rings after : State) (name : List ℕ) (what : Act)
    (e : Entry Command Reply) → (is : IsDone name what e)
    → Step limits rings e.hour e.command e.reply after
    → Step limits rings e.hour (record { ring = name; act = what })
    (reply.Done (done_answer e.reply is.done).0) after
done_step limits rings after name what e is step =
    let answer = done_answer e.reply is.done in
    subst (λ (r : Reply). Step limits rings e.hour (record { ring = name; act = what }) r after)
    answer.1
    (subst (λ (n : List ℕ). Step limits rings e.hour (record { ring = n; act = what }) e.reply after)
    is.ring
    (subst (λ (a : Act). Step limits rings e.hour (record { ring = e.command.ring; act = a })
    e.reply after) is.is step))

-- and of a rebalance
pub plain_step : (limits : Limits) (rings after : State) (name : List ℕ)
    (e : Entry Command Reply) → (is : HasRebalanced name e)
    → Step limits rings e.hour e.command e.reply after
    → Step limits rings e.hour (record { ring = name; act = e.command.act })
    (reply.Done (done_answer e.reply is.done).0) after
plain_step limits rings after name e is step =
    done_step limits rings after name e.command.act e
    (record { ring = is.ring; is = refl; done = is.done }) step

pub few_left_of : (limits : Limits) (rings after : State) (name : List ℕ)
    (entry : Entry Command Reply) → HasRebalanced name entry
    → Step limits rings entry.hour entry.command entry.reply after
    → FewLeft rings name entry.hour after
few_left_of limits rings after name entry is step =
    few_left limits rings after entry.hour (record { ring = name; act = entry.command.act })
    (done_answer entry.reply is.done).0 is.is (plain_step limits rings after name entry is step)
