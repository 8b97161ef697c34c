use Rattle.std.proofs.Common.{◌≡◌, ◌+◌, false, refl, sym, ◌∙◌, arith}
use Rattle.ring_words.specs.Limits.{greatest_long}
use Rattle.std.specs.Prelude.{nat_lt, if◌then◌else◌}
use Rattle.std.proofs.lemmas.Bool.Decides.{nat_tests}
use Rattle.ring_room.proofs.Searching.SeatCounts.{more_if, put_there}
use Rattle.ring_room.proofs.rooms.Room.put_at.Goals as goal
use Rattle.ring_room.proofs.rooms.Room.put_at.Goals.{then-count-lt4294967295}
use Rattle.ring_room.proofs.rooms.Room.put_at.Goals.{else-count-lt4294967295}

pub returns-clause-put : goal.returns-clause-put
returns-clause-put c =
    let count = c.index-count.result.now in
    let more = c.if-count-lt4294967295.more in
    let more_is : more ≡ (if nat_lt count greatest_long then count + 1 else count) =
    elim c.if-count-lt4294967295.branch [
      | then-count-lt4294967295 w ↦ w.more-is ∙ sym (more_if count w.if-count-lt4294967295.true)
      | else-count-lt4294967295 w ↦
          let no : nat_lt count greatest_long ≡ false = grind (arith, nat_tests) in
          w.more-is ∙ sym (rw no refl)
    ] in
    put_there _ c.args.self.now c.set_count.new.self c.self.view_is c.self.invariant.counted
    c.args.place count more c.requires c.index-count.ensures more_is c.set_count.ensures.count
