use Rattle.line_stream.proofs.LineLemmas.{some_lines, one_list}
use Rattle.line_stream.proofs.laws.one_list_of_lines.Goals as goal

pub returns-clause-some : goal.returns-clause-some
returns-clause-some c = some_lines

pub returns-clause-one : goal.returns-clause-one
returns-clause-one c = one_list
