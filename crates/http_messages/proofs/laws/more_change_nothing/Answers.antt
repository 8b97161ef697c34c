use Rattle.http_messages.proofs.RequestLemmas.{HasAsk-more, IsFaulty-more}
use Rattle.http_messages.proofs.laws.more_change_nothing.Goals as goal

pub returns : goal.returns
returns c = record {
  whole = λ audience bytes more ask rest h. HasAsk-more bytes ask rest more h;
  refused = λ audience bytes more why h. IsFaulty-more audience bytes why more h;
}
