use Rattle.http_stream.proofs.OneList.{one_list}
use Rattle.http_stream.proofs.laws.one_list_of_requests.Goals as goal

pub returns : goal.returns
returns c = one_list
