use Rattle.std.proofs.Common.{◌≡◌, Err, arith}
use Rattle.ring_words.specs.declared.spelling.SpellingFault.TheVariants.{Bad}
use Rattle.ring_text.specs.Inner.Reading.{IsHead}
use Rattle.ring_text.proofs.Stopped.{found_reads, head_stops, many_stop, none_reads, rest_stops}
use Rattle.ring_text.proofs.Stopped.{short_stops}
use Rattle.ring_text.proofs.stops.good_lines.Goals as goal

pub returns-then-lines-lt-FIRST_LINES-clause-stop :
    goal.returns-then-lines-lt-FIRST_LINES-clause-stop
returns-then-lines-lt-FIRST_LINES-clause-stop c = short_stops c.args.lines.now c.good_head.result
    (omega arith) c.good_head.ensures.stop

pub returns-in_default-clause-stop : goal.returns-in_default-clause-stop
returns-in_default-clause-stop c =
    let bad : c.read_head.result ≡ Err Bad = rw c.in_default.is at c.in_ok-head.ensures in
    head_stops c.args.lines.now c.split_at.result.0.now c.good_head-in_default.result (omega arith)
    c.split_at.ensures.front (none_reads (IsHead _) c.read_head.result c.read_head.ensures bad)
    c.good_head-in_default.ensures.within c.good_head-in_default.ensures.stop

pub returns-then-from-gt-MOST_DEVICES-clause-stop :
    goal.returns-then-from-gt-MOST_DEVICES-clause-stop
returns-then-from-gt-MOST_DEVICES-clause-stop c = λ within.
    many_stop c.args.lines.now c.split_at.result.0.now c.in-Some.head (omega arith)
    c.split_at.ensures.front (found_reads (IsHead _) c.read_head.result c.in_ok-head.field-0
    c.in-Some.head c.read_head.ensures c.in_ok-head.ensures c.in-Some.is)
    (omega (arith, c.from.ensures, c.if-from-gt-MOST_DEVICES.true))

pub returns-clause-stop : goal.returns-clause-stop
returns-clause-stop c = λ within.
    rest_stops c.args.lines.now c.split_at.result.0.now c.split_at.result.1.now c.in-Some.head
    c.in_ok-good_rest.field-0 (omega arith) c.split_at.ensures.front c.split_at.ensures.back
    (found_reads (IsHead _) c.read_head.result c.in_ok-head.field-0 c.in-Some.head
    c.read_head.ensures c.in_ok-head.ensures c.in-Some.is)
    (c.in_ok-good_rest.ensures.stop (omega (arith, within, c.split_at.ensures.back_len)))
