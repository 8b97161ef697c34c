use Rattle.std.proofs.Common.{IfSome, None, Option, Some, subst}
use Rattle.ring_place.specs.Inner.Finishing.{AreRebalanced}
use Rattle.ring_place.proofs.new_seats.new_seats.Goals as goal

if_some_all : {T : Type 0} (o : Option T) (P Q : T → Type 0) → IfSome o P → ((x : T) → P x → Q x) → IfSome o Q
if_some_all (Some x) P Q p all = all x p
if_some_all None P Q p all = tt

pub returns-in-Some : goal.returns-in-Some
returns-in-Some c = subst (λ seats. IfSome seats (AreRebalanced c.args.ring.now c.args.hour c.args.seed))
    c.in-Some.is (if_some_all c.in_ok-seats.field-0 _ (AreRebalanced c.args.ring.now c.args.hour c.args.seed)
    c.in_ok-seats.ensures.dealt (λ rows all. all c.args.hour))
