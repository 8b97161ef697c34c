use Rattle.std.proofs.Common.{map}
use denote.Text.{Utf8}
use denote.Shadow.{shadow}
use Rattle.ring_text.specs.Inner.Reading.{HasLines}
use Rattle.ring_text.proofs.words.front_lines.Given as goal

abbrev pub invariant-loop-line : goal.invariant-loop-line
invariant-loop-line l = shadow (Utf8 l.rest) × HasLines l._line l.text
    (map (λ line. line.now) l.lines.items) l.rest
