use Rattle.std.proofs.Common.{◌≡◌, ◌≢◌, ◌∙◌, ℕ, Bool, List, Option, sym, refl}
use Rattle.ring_room.specs.Load.{Load}
use Rattle.ring_place.specs.declared.gather.Pass.{Pass}
use Rattle.ring_place.specs.declared.gather.Pass.TheVariants.{First, Apart, Beside, Second}
use Rattle.ring_place.specs.Made.{later_lifting, lifting}
use Rattle.ring_place.proofs.Gathering.LaterPasses.{later_rests}
use Rattle.ring_place.proofs.Gathering.NoneOver.{same_later, stays_there}
use Rattle.ring_place.proofs.gather.may_lift.Goals as goal

is_later : (pass : Pass) (was kept : Load) (locked : Bool) (row : List (Option ℕ)) → pass ≢ First →
    later_lifting pass was kept locked row ≡ lifting pass was kept locked row
is_later First was kept locked row later = absurd (later refl)
is_later Apart was kept locked row later = refl
is_later (Beside most) was kept locked row later = refl
is_later Second was kept locked row later = refl

pub returns-in_default : goal.returns-in_default
returns-in_default c =
    let pass = c.args.pass in
    let was = c.args.was.now in
    let kept = c.args.kept.now in
    let row = c.args.row.now in
    let later = c.in_default.not-First in
    record {
      rests = λ no. later_rests pass was kept c.args.locked row row later refl
          (λ full unlocked free replica id at.
          stays_there kept row (sym c.has_over.ensures ∙ no) pass was replica id later at);
      by_name = λ no. same_later kept row (sym c.has_over.ensures ∙ no) pass was c.args.locked later
          ∙ is_later pass was kept c.args.locked row later;
    }
