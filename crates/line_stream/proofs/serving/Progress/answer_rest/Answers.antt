use Rattle.std.proofs.lemmas.Bool.{iff_false}
use Rattle.std.proofs.lemmas.Result.{MatchResult-weaker}
use Rattle.line_stream.specs.Answers.{Answered}
use Rattle.line_stream.specs.Inner.Steps.{line_place}
use Rattle.line_stream.proofs.MidwayLemmas.{ends_empty, ends_line, in_part_line}
use Rattle.line_stream.proofs.serving.Progress.answer_rest.Goals as goal

pub returns-then-is_empty-clause-answered : goal.returns-then-is_empty-clause-answered
returns-then-is_empty-clause-answered g c = λ origin before came m.
    let gives = Answered g.H.Handler in
    ends_empty gives came before origin _ m (c.is_empty.ensures.0 c.if-is_empty.true)

pub returns-clause-answered : goal.returns-clause-answered
returns-clause-answered g c = λ origin before came m.
    let gives = Answered g.H.Handler in
    let some = iff_false c.is_empty.ensures c.if-is_empty.false in
    let e = c.end_line.ensures.answered in
    let next = line_place g.W.Write.contents c.end_line.new.self c.end_line.new.state
    c.end_line.new.writer in
    MatchResult-weaker c.end_line.result e.2
    (λ _ ok. ends_line gives came before origin _ next e.0 m some e.1 ok.0 ok.1 ok.2)
    (λ fault f. (f.0, in_part_line gives came before origin _ next e.0 m some e.1 f.1))
