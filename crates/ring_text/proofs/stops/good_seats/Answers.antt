use Rattle.std.proofs.lemmas.Grind.{common_steps}
use Rattle.std.proofs.Common.{◌-◌, ◌<◌, length, sym, ◌∙◌, true≢false, arith}
use Rattle.std.proofs.lemmas.Bool.{not-true}
use Rattle.std.proofs.lemmas.List.{length-drop, length-take}
use Rattle.std.proofs.lemmas.Slice.Eq.{bytes_eq-Decides}
use Rattle.ring_text.proofs.Stopped.{end_stops, more_stops, partitions_stop}
use Rattle.ring_text.proofs.stops.good_seats.Goals as goal
use Rattle.ring_text.proofs.stops.good_seats.Goals.{then-good-rest-via-then-good-rest}
use Rattle.ring_text.proofs.stops.good_seats.Goals.{then-good-rest-via-else-good-rest+then-ne-2}

pub returns-then-good-front-clause-stop : goal.returns-then-good-front-clause-stop
returns-then-good-front-clause-stop c = λ within.
    let count = c.partition_count-partitions.ensures.value in
    let width = simp (length-take, length-drop) at c.min.ensures in
    let few = simp (length-take, length-drop) at c.if-good-front.true in
    let good = c.in_ok-good.good in
    let inside : good < length c.args.lines.now - 1 = omega (arith, within) in
    partitions_stop c.args.head.now c.args.devices.now c.args.lines.now c.min.result _ good
    (omega (arith, few)) inside (omega (arith, few, width, count)) within
    (c.in_ok-good.ensures.stop c.if-good-front.true)

pub returns-then-good-rest-clause-stop : goal.returns-then-good-rest-clause-stop
returns-then-good-rest-clause-stop c = λ within.
    let count = c.partition_count-partitions.ensures.value in
    let width = simp (length-take, length-drop) at c.min.ensures in
    let few = simp (length-take, length-drop) at c.in_ok-good.ensures.within in
    let all = simp (length-take, length-drop) at c.if-good-front.false in
    let good = c.in_ok-good.good in
    let inside : good < length c.args.lines.now - 1 = omega (arith, within) in
    elim c.then-good-rest.branch [
      | then-good-rest-via-then-good-rest w ↦ absurd (let end =
          simp (length-take, length-drop) at w.if-good-rest.true in omega (arith, end, inside))
      | then-good-rest-via-else-good-rest+then-ne-2 w ↦ end_stops c.args.head.now
          c.args.devices.now c.args.lines.now _ good inside (omega (
            arith,
            few,
            all,
            width,
            count,
            inside,
          )) within (λ e. true≢false (sym ((bytes_eq-Decides _ _).1
          (w.text_at-else-good-rest.ensures ∙ e)) ∙ not-true _ (sym w.ne-else-good-rest.ensures ∙
          w.if-ne-2.true)))
    ]

pub returns-clause-stop : goal.returns-clause-stop
returns-clause-stop c = λ within.
    let count = c.partition_count-partitions.ensures.value in
    let width = simp (length-take, length-drop) at c.min.ensures in
    let few = simp (length-take, length-drop) at c.in_ok-good.ensures.within in
    let all = simp (length-take, length-drop) at c.if-good-front.false in
    more_stops c.args.head.now c.args.devices.now c.args.lines.now c.in_ok-good.good
    (omega (arith, few, all, width, count, within)) within

pub returns-then-is_empty-clause-stop : goal.returns-then-is_empty-clause-stop
returns-then-is_empty-clause-stop c = grind (arith, common_steps)
