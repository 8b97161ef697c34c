use Rattle.std.proofs.lemmas.Grind.{elements}
use Rattle.std.proofs.Common.{⊎_elim, sym, subst, arith}
use Rattle.std.proofs.lemmas.Bool.{cases_eq}
use Rattle.ring_share.specs.Inner.Turns.{ComesBefore}
use Rattle.ring_share.proofs.Sharing.{comes_first}
use Rattle.ring_share.proofs.wants.first_with.Goals as goal

pub returns-else-share_rest : goal.returns-else-share_rest
returns-else-share_rest c =
    let ring = c.args.ring.now in
    let before = rw c.in-Some.is at c.requires.first in
    let last : ComesBefore ring c.in-Some.earlier c.args.place =
    comes_first ring c.in-Some.earlier c.args.place c.index-devices-earlier.result
    c.index-devices-place.result c.devices-devices.ensures.valid before.0
    (rw (← c.devices-devices.ensures.value) c.index-devices-earlier.is)
    (rw (← c.devices-devices.ensures.value) c.index-devices-place.is)
    (omega (arith, c.if-share_rest.false, c.share_rest.ensures, c.share_rest-2.ensures)) in (
      omega (arith, before.0),
      before.1,
      λ place lt waiting other. ⊎_elim
          (λ same. subst (λ k. ComesBefore ring c.in-Some.earlier k) (sym same) last)
          (λ ne. before.2 place (omega (arith, ne, lt)) waiting other)
          (cases_eq place c.args.place),
    )

pub returns-then-share_rest : goal.returns-then-share_rest
returns-then-share_rest c = grind (arith, elements)
