use Rattle.std.proofs.Common.{ap, get_or, not, sym, subst, ◌∙◌, Some, None}
use Rattle.ring_room.specs.Places.{seats_at}
use Rattle.ring_room.specs.Inner.Places.{IsBestSoFar}
use Rattle.ring_room.proofs.Searching.BestSoFar.{best_skip, best_first, best_take, best_keep}
use Rattle.ring_room.proofs.Searching.FreeOutside.{free_at}
use Rattle.ring_room.specs.Search.{better_of}
use Rattle.ring_room.proofs.Searching.ByName.{better_is, better_skip, lesser_some}
use Rattle.ring_room.proofs.Searching.FreeOutside.{outside_at}
use Rattle.ring_room.proofs.rooms.Room.better.Goals as goal

pub returns-then-contains-clause-best : goal.returns-then-contains-clause-best
returns-then-contains-clause-best c =
    let now = c.args.self.now in
    let others = c.args.others.now in
    let places = c.args.places.now in
    let index = c.place_after.result in
    let place = get_or places index 0 in
    let comes = ap (λ index. get_or places index 0) c.place_after.ensures.value in
    let free = free_at now c.requires.load others place c.contains.result c.requires.others
    (c.requires.places index 0 c.place_after.ensures.within)
    (c.requires.room index 0 c.place_after.ensures.within) c.contains.ensures.value in
    best_skip now (seats_at now.devices others) places c.args.start c.args.step place c.args.best
    comes c.requires.best (sym free ∙ ap not c.if-contains.true)

pub returns-in-None-clause-best : goal.returns-in-None-clause-best
returns-in-None-clause-best c =
    let now = c.args.self.now in
    let others = c.args.others.now in
    let places = c.args.places.now in
    let index = c.place_after.result in
    let place = get_or places index 0 in
    let row = seats_at now.devices others in
    let comes = ap (λ index. get_or places index 0) c.place_after.ensures.value in
    let free = free_at now c.requires.load others place c.contains.result c.requires.others
    (c.requires.places index 0 c.place_after.ensures.within)
    (c.requires.room index 0 c.place_after.ensures.within) c.contains.ensures.value in (
      best_first now row places c.args.start c.args.step place comes
          (c.requires.places index 0 c.place_after.ensures.within)
          (subst (λ b. IsBestSoFar places c.args.start c.args.step now row b) c.in-None.is
          c.requires.best) (sym free ∙ ap not c.if-contains.false),
      c.crowd_by-crowd.ensures,
    )

pub returns-then-is_less-clause-best : goal.returns-then-is_less-clause-best
returns-then-is_less-clause-best c =
    let now = c.args.self.now in
    let others = c.args.others.now in
    let places = c.args.places.now in
    let index = c.place_after.result in
    let place = get_or places index 0 in
    let row = seats_at now.devices others in
    let comes = ap (λ index. get_or places index 0) c.place_after.ensures.value in
    let free = free_at now c.requires.load others place c.contains.result c.requires.others
    (c.requires.places index 0 c.place_after.ensures.within)
    (c.requires.room index 0 c.place_after.ensures.within) c.contains.ensures.value in
    let so_far = subst (λ b. IsBestSoFar places c.args.start c.args.step now row b) c.in-Some.is
    c.requires.best in (
      best_take now row places c.args.start c.args.step place c.in-Some.other.0 comes
          (c.requires.places index 0 c.place_after.ensures.within) so_far.0
          (sym free ∙ ap not c.if-contains.false)
          (cc (c.if-is_less.ensures, c.crowd_by-crowd.ensures, so_far.1)),
      c.crowd_by-crowd.ensures,
    )

pub returns-else-is_less-clause-best : goal.returns-else-is_less-clause-best
returns-else-is_less-clause-best c =
    let now = c.args.self.now in
    let places = c.args.places.now in
    let row = seats_at now.devices c.args.others.now in
    let comes = ap (λ index. get_or places index 0) c.place_after.ensures.value in
    let so_far = subst (λ b. IsBestSoFar places c.args.start c.args.step now row b) c.in-Some.is
    c.requires.best in (
      best_keep now row places c.args.start c.args.step (get_or places c.place_after.result 0)
          c.in-Some.other.0 comes so_far.0
          (cc (c.if-is_less.ensures, c.crowd_by-crowd.ensures, so_far.1)),
      so_far.1,
    )

pub returns-then-contains-clause-value : goal.returns-then-contains-clause-value
returns-then-contains-clause-value c =
    let now = c.args.self.now in
    let others = c.args.others.now in
    let places = c.args.places.now in
    let index = c.place_after.result in
    let place = get_or places index 0 in
    let row = seats_at now.devices others in
    let comes = ap (λ index. get_or places index 0) c.place_after.ensures.value in
    let out = outside_at now.devices c.requires.load.rise others place c.requires.others
    (c.requires.places index 0 c.place_after.ensures.within)
    ∙ ap not (sym c.contains.ensures.value ∙ c.if-contains.true) in
    better_skip now row place c.args.best out ∙ ap (λ p. better_of now row p c.args.best) comes

pub returns-in-None-clause-value : goal.returns-in-None-clause-value
returns-in-None-clause-value c =
    let now = c.args.self.now in
    let others = c.args.others.now in
    let places = c.args.places.now in
    let index = c.place_after.result in
    let place = get_or places index 0 in
    let row = seats_at now.devices others in
    let comes = ap (λ index. get_or places index 0) c.place_after.ensures.value in
    let out = outside_at now.devices c.requires.load.rise others place c.requires.others
    (c.requires.places index 0 c.place_after.ensures.within)
    ∙ ap not (sym c.contains.ensures.value ∙ c.if-contains.false) in
    better_is now row place c.crowd_by-crowd.result None out c.crowd_by-crowd.ensures
    ∙ ap (better_of now row place) (sym c.in-None.is) ∙ ap (λ p. better_of now row p c.args.best) comes

pub returns-then-is_less-clause-value : goal.returns-then-is_less-clause-value
returns-then-is_less-clause-value c =
    let now = c.args.self.now in
    let others = c.args.others.now in
    let places = c.args.places.now in
    let index = c.place_after.result in
    let place = get_or places index 0 in
    let row = seats_at now.devices others in
    let comes = ap (λ index. get_or places index 0) c.place_after.ensures.value in
    let out = outside_at now.devices c.requires.load.rise others place c.requires.others
    (c.requires.places index 0 c.place_after.ensures.within)
    ∙ ap not (sym c.contains.ensures.value ∙ c.if-contains.false) in
    lesser_some c.in-Some.other (place, c.crowd_by-crowd.result) _ (sym c.if-is_less.ensures)
    ∙ better_is now row place c.crowd_by-crowd.result (Some c.in-Some.other) out c.crowd_by-crowd.ensures
    ∙ ap (better_of now row place) (sym c.in-Some.is) ∙ ap (λ p. better_of now row p c.args.best) comes

pub returns-else-is_less-clause-value : goal.returns-else-is_less-clause-value
returns-else-is_less-clause-value c =
    let now = c.args.self.now in
    let others = c.args.others.now in
    let places = c.args.places.now in
    let index = c.place_after.result in
    let place = get_or places index 0 in
    let row = seats_at now.devices others in
    let comes = ap (λ index. get_or places index 0) c.place_after.ensures.value in
    let out = outside_at now.devices c.requires.load.rise others place c.requires.others
    (c.requires.places index 0 c.place_after.ensures.within)
    ∙ ap not (sym c.contains.ensures.value ∙ c.if-contains.false) in
    lesser_some c.in-Some.other (place, c.crowd_by-crowd.result) _ (sym c.if-is_less.ensures)
    ∙ better_is now row place c.crowd_by-crowd.result (Some c.in-Some.other) out c.crowd_by-crowd.ensures
    ∙ ap (better_of now row place) (sym c.in-Some.is) ∙ ap (λ p. better_of now row p c.args.best) comes
