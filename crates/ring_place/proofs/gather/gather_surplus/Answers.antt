use Rattle.std.proofs.Common.{◌≡◌, ◌∙◌, ◌<◌, ℕ, length, sym, true, arith}
use Rattle.ring_place.specs.declared.gather.Pass.TheVariants.{Beside, First, Second}
use Rattle.ring_place.specs.Inner.Gathering.{Falls, IsPass}
use Rattle.ring_deal.specs.Inner.Orders.{is_among}
use Rattle.ring_place.proofs.Gathering.PassSteps.{falls_more, second_passed}
use Rattle.ring_deal.proofs.Orders.{order_is_below}
use Rattle.ring_place.proofs.gather.gather_surplus.Goals as goal

pub returns-clause-later : goal.returns-clause-later
returns-clause-later c =
    let order = c.args.order.now in
    let was = c.args.was.now in
    let locked = c.args.locked.now in
    let one = c.gather_over.ensures.pass in
    let two = c.gather_over-2.ensures.pass in
    let three = c.gather_over-3.ensures.pass in
    let four = c.gather_over-4.ensures.pass in
    let five = c.gather_over-5.ensures.pass in
    let six = c.gather_over-6.ensures.pass in
    let inside : (p : ℕ) → is_among order p ≡ true → p < length c.args.seats.now = λ p among.
    order_is_below (length c.args.seats.now) order c.requires.order p among in
    let all_from_six : Falls c.gather_over-5.new.kept c.gather_over-6.new.kept =
    c.gather_over-6.ensures.falls in
    let all_from_five : Falls c.gather_over-4.new.kept c.gather_over-6.new.kept =
    falls_more c.gather_over-4.new.kept c.gather_over-5.new.kept c.gather_over-6.new.kept
    (five.filled.devices_are ∙ sym four.filled.devices_are)
    (five.filled.wanted_are ∙ sym four.filled.wanted_are) c.gather_over-5.ensures.falls all_from_six in
    let all_from_four : Falls c.gather_over-3.new.kept c.gather_over-6.new.kept =
    falls_more c.gather_over-3.new.kept c.gather_over-4.new.kept c.gather_over-6.new.kept
    (four.filled.devices_are ∙ sym three.filled.devices_are)
    (four.filled.wanted_are ∙ sym three.filled.wanted_are) c.gather_over-4.ensures.falls all_from_five in
    let all_from_three : Falls c.gather_over-2.new.kept c.gather_over-6.new.kept =
    falls_more c.gather_over-2.new.kept c.gather_over-3.new.kept c.gather_over-6.new.kept
    (three.filled.devices_are ∙ sym two.filled.devices_are)
    (three.filled.wanted_are ∙ sym two.filled.wanted_are) c.gather_over-3.ensures.falls all_from_four in
    let all_from_two : Falls c.gather_over.new.kept c.gather_over-6.new.kept =
    falls_more c.gather_over.new.kept c.gather_over-2.new.kept c.gather_over-6.new.kept
    (two.filled.devices_are ∙ sym one.filled.devices_are)
    (two.filled.wanted_are ∙ sym one.filled.wanted_are) c.gather_over-2.ensures.falls all_from_three in
    let second_from_five : IsPass Second order was c.gather_over-6.new.kept locked c.gather_over-4.new.seats
    c.gather_over-6.new.seats = second_passed (Beside 3) order was c.gather_over-5.new.kept
    c.gather_over-6.new.kept locked c.gather_over-4.new.seats c.gather_over-5.new.seats c.gather_over-6.new.seats
    (λ (e : Beside 3 ≡ First). cc e) c.gather_over-4.ensures.rows
    (λ p among. let below = inside p among in let many_0 = one.as_many in let many_1 = two.as_many in let many_2 = three.as_many in let many_3 = four.as_many in omega (arith, below, many_0, many_1, many_2, many_3))
    all_from_six five six in
    let second_from_four : IsPass Second order was c.gather_over-6.new.kept locked c.gather_over-3.new.seats
    c.gather_over-6.new.seats = second_passed (Beside 2) order was c.gather_over-4.new.kept
    c.gather_over-6.new.kept locked c.gather_over-3.new.seats c.gather_over-4.new.seats c.gather_over-6.new.seats
    (λ (e : Beside 2 ≡ First). cc e) c.gather_over-3.ensures.rows
    (λ p among. let below = inside p among in let many_0 = one.as_many in let many_1 = two.as_many in let many_2 = three.as_many in omega (arith, below, many_0, many_1, many_2))
    all_from_five four second_from_five in
    let second_from_three : IsPass Second order was c.gather_over-6.new.kept locked c.gather_over-2.new.seats
    c.gather_over-6.new.seats = second_passed (Beside 1) order was c.gather_over-3.new.kept
    c.gather_over-6.new.kept locked c.gather_over-2.new.seats c.gather_over-3.new.seats c.gather_over-6.new.seats
    (λ (e : Beside 1 ≡ First). cc e) c.gather_over-2.ensures.rows
    (λ p among. let below = inside p among in let many_0 = one.as_many in let many_1 = two.as_many in omega (arith, below, many_0, many_1))
    all_from_four three second_from_four in
    let second_from_two : IsPass Second order was c.gather_over-6.new.kept locked c.gather_over.new.seats
    c.gather_over-6.new.seats = second_passed (Beside 0) order was c.gather_over-2.new.kept
    c.gather_over-6.new.kept locked c.gather_over.new.seats c.gather_over-2.new.seats c.gather_over-6.new.seats
    (λ (e : Beside 0 ≡ First). cc e) c.gather_over.ensures.rows
    (λ p among. let below = inside p among in let many_0 = one.as_many in omega (arith, below, many_0))
    all_from_three two second_from_three in
    record {
      between = c.gather_over.new.kept;
      middle = c.gather_over.new.seats;
      apart = one;
      second = second_from_two;
      falls = all_from_two;
    }
