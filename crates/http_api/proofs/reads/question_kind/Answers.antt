use Rattle.std.proofs.Common.{rules}
use Rattle.http_api.proofs.reads.question_kind.Goals as goal

pub returns-then-is_json : goal.returns-then-is_json
returns-then-is_json c = search rules

pub returns-then-is_file : goal.returns-then-is_file
returns-then-is_file c = search rules
