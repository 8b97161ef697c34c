use Rattle.builder.proofs.OneBook.{same_book}
use Rattle.builder.proofs.laws.one_list_one_book.Goals as goal

pub returns : goal.returns
returns c = λ limits limit old new after deliveries answers others proper one other.
    same_book limits limit old new after deliveries answers others one.as_many other.as_many one.sure
    other.sure proper.hour proper.proper proper.rings one.run other.run
