use Rattle.std.proofs.Common.{◌≡◌, ℕ, ◌+◌, ◌-◌, ◌≤◌, length, take, arith, rules, ap, sym, ◌∙◌, ◌++◌, subst}
use borrow.Rule.Slice.PartMut.{put_mid}
use Rattle.std.specs.Io.KnownBytes.{Consumes}
use Rattle.byte_streams.proofs.KnownLemmas.{Consumes-then}
use Rattle.timed_streams.proofs.Rooms.{front_after}
use Rattle.timed_streams.proofs.within.fill_within.Goals as goal

pub loop-at-preserved : goal.loop-at-preserved
loop-at-preserved g c =
    let at = c.loop-at.at in
    let room = c.loop-at.room in
    let piece = c.read_timed.new.buf in
    let count = c.in_ok-count.count in
    let remaining = g.S.Read.remaining in
    let few : count ≤ length piece = search rules in
    let rest : length piece ≡ length room - at = search rules in
    let same : length (put_mid at (length room - at) room piece) ≡ length room = search rules in
    record {
      within = omega (arith, same, few, rest, c.loop-at.invariant.within);
      same = same ∙ c.loop-at.invariant.same;
      came = subst (Consumes (remaining c.args.stream.now) (remaining c.read_timed.new.stream))
          (sym (front_after at (length room - at) count room piece c.loop-at.invariant.within few))
          (Consumes-then _ _ _ (take at room) (take count piece) c.loop-at.invariant.came
          c.in_ok-count.ensures.bytes.0);
    }

pub returns-then-count-eq0 : goal.returns-then-count-eq0
returns-then-count-eq0 g c =
    let at = c.loop-at.at in
    let room = c.loop-at.room in
    let piece = c.read_timed.new.buf in
    let count = c.in_ok-count.count in
    let remaining = g.S.Read.remaining in
    let few : count ≤ length piece = c.in_ok-count.ensures.bound.0 in
    let rest : length piece ≡ length room - at = search rules in
    let filled = put_mid at (length room - at) room piece in
    let same : length filled ≡ length room = search rules in
    let none : count ≡ 0 = c.if-count-eq0.true in
    let here : at ≡ at + count = omega arith in
    record {
      bound = omega (arith, same, c.loop-at.invariant.within);
      came = subst (Consumes (remaining c.args.stream.now) (remaining c.read_timed.new.stream))
          (sym (ap (λ (n : ℕ). take n filled) here
          ∙ front_after at (length room - at) count room piece c.loop-at.invariant.within few))
          (Consumes-then _ _ _ (take at room) (take count piece) c.loop-at.invariant.came
          c.in_ok-count.ensures.bytes.0);
      end = λ some. c.in_ok-count.ensures.bytes.1 none (omega (arith, some, same, rest));
    }
