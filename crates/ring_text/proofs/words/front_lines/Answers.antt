use Rattle.std.proofs.Common.{◌≡◌, arith, rules}
use Rattle.std.proofs.lemmas.Option.{MatchOption-at_some, MatchOption-at_none}
use Rattle.std.proofs.lemmas.Str.Pattern.{split_parts}
use Rattle.ring_text.proofs.Fronts.{no_line, line_more, line_last, next_utf8}
use Rattle.ring_text.proofs.words.front_lines.Goals as goal

pub loop-line-init : goal.loop-line-init
loop-line-init c = (search rules, rw c.new-lines.ensures.items (no_line c.args.text.now))

pub returns-in_default-clause-bad : goal.returns-in_default-clause-bad
returns-in_default-clause-bad c = λ bad texts more lines some count.
    let none = MatchOption-at_none _ _ c.in_default.is (split_parts 10 c.loop-line.rest.now c.split_once.result c.split_once.ensures.cases (omega arith)) in
    line_last c.loop-line._line c.args.text.now c.loop-line.rest.now _ texts more
    c.loop-line.invariant.1 none lines some (omega (arith, c.loop-line-test.true, count))

pub loop-line-preserved : goal.loop-line-preserved
loop-line-preserved c =
    let parts = MatchOption-at_some _ _ _ c.in-Some.is (split_parts 10 c.loop-line.rest.now c.split_once.result c.split_once.ensures.cases (omega arith)) in
    (next_utf8 _ _ _ c.loop-line.invariant.0 parts.0, rw c.in_ok-push.ensures.items (line_more c.loop-line._line c.args.text.now c.loop-line.rest.now c.in-Some.next.now c.loop-line.lines.items c.in-Some.line c.loop-line.invariant.1 parts.0 parts.1))

pub returns-clause-read : goal.returns-clause-read
returns-clause-read c =
    let all : c.loop-line._line ≡ c.args.count = omega (arith, c.loop-line-test.false, c.loop-line.auto._line-end) in
    rw (← all) c.loop-line.invariant.1
