use Rattle.std.proofs.Common.{◌≡◌, ◌-◌, length, ap, arith}
use Rattle.std.proofs.lemmas.List.{length-take}
use Rattle.ring_text.proofs.LineCounts.{lent_count, lines_of_front, some_line}
use Rattle.ring_text.proofs.Cutting.{Lent}
use Rattle.ring_text.proofs.StopLines.{stops_there}
use Rattle.ring_text.proofs.stops.stop_line.Goals as goal

pub returns : goal.returns
returns c =
    let bytes = c.args.bytes.now in
    let text = c.text_of.result.now in
    let lines = c.in_ok-lines.lines.items in
    let good = c.in_ok-good_lines.field-0 in
    let front = lines_of_front bytes text (length text) c.text_of.ensures.front in
    let count = lent_count text lines c.in_ok-lines.ensures in
    let some = some_line text in
    let long : c.len.result ≡ length lines = omega (arith, c.in_ok-lines.lines.ok.0, c.len.ensures)
    in
    let lent : length c.deref.result.now ≡ length lines = ap (λ (l : Lent). length l)
    c.deref.ensures.value in
    let within = simp length-take at c.in_ok-good_lines.ensures.within in
    record {
      line = (omega arith, omega arith);
      none = stops_there bytes text lines c.deref.result.now (c.len.result - 1) good
          c.deref.ensures.value (omega (arith, long)) c.text_of.ensures.front
          c.text_of.ensures.longest c.in_ok-lines.ensures count (omega arith)
          (λ inside. c.in_ok-good_lines.ensures.stop (simp length-take (omega (
            arith,
            inside,
            long,
            lent,
          ))));
    }
