use Rattle.std.proofs.Common.{refl, None}
use Rattle.request_book.proofs.Fronts.{none_made}
use Rattle.ring_book.specs.Book.{steps_of}
use Rattle.http_api.proofs.service.answer_message.Goals as goal

pub returns-in-Err-Bad : goal.returns-in-Err-Bad
returns-in-Err-Bad g c =
    let none = rw c.in-Err-Bad.field-0-is at c.in-Err-Bad.ensures in (
      None,
      none_made steps_of g.K.Keeper.content g.K.Keeper.sound g.K.Keeper.limit g.K.Keeper.fault_count
          c.args.book.now,
      (refl, λ key command message. none (key, command) message, refl),
    )
