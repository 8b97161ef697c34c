use Rattle.http_messages.proofs.OneRequest.{asks_same, asks_refused, asks_ends, refused_same}
use Rattle.http_messages.proofs.OneRequest.{refused_ends}
use Rattle.http_messages.proofs.laws.one_request.Goals as goal

pub returns : goal.returns
returns c = record {
  one = asks_same;
  not_refused = asks_refused;
  not_short = asks_ends;
  one_reason = refused_same;
  refused_early = refused_ends;
}
