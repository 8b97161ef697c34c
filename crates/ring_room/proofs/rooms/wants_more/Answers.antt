use Rattle.std.proofs.Common.{◌≡◌, ◌<◌, ◌&&◌, ◌∙◌, ℕ, Bool, true, false, sym}
use Rattle.std.specs.Prelude.{nat_lt}
use Rattle.std.proofs.lemmas.Bool.{lt-ltb}
use Rattle.ring_room.proofs.rooms.wants_more.Goals as goal

both : (a r : Bool) (count wanted : ℕ) → count < wanted → r ≡ a → r ≡ (a && nat_lt count wanted)
both true r count wanted less is = is ∙ sym (lt-ltb count wanted less)
both false r count wanted less is = is

pub returns-then-count-wanted : goal.returns-then-count-wanted
returns-then-count-wanted c = both _ c.is_open.result c.args.count c.args.wanted
    c.if-count-wanted.true c.is_open.ensures
