use Rattle.request_book.proofs.Fronts.{none_made}
use Rattle.ring_book.specs.Book.{steps_of}
use Rattle.http_api.proofs.Tellings.{message_answered, import_answered, page_answered, read_answered}
use Rattle.http_api.proofs.service.RingServiceService.answer.Goals as goal

pub returns-in_ok-told-in-Ok-Deliver : goal.returns-in_ok-told-in-Ok-Deliver
returns-in_ok-told-in-Ok-Deliver g c =
    let asks = rw c.in-Ok-Deliver.field-0-is at c.in-Ok-Deliver.ensures in
    let told = c.in_ok-told-in-Ok-Deliver.ensures in
    message_answered g.K.Keeper
    g.C.Clock.tells _ _
    (record {
      method = c.args.method;
      target = c.args.target.now;
      body = c.args.body.now;
      is_last =
          c.args.is_last;
    }) _ _ _ _ c.in_ok-told-in-Ok-Deliver.told
    told.0 asks told.1 told.2 c.told_answer.result c.told_answer.ensures

pub returns-in_ok-told-in-Ok-Import : goal.returns-in_ok-told-in-Ok-Import
returns-in_ok-told-in-Ok-Import g c =
    let asks = rw c.in-Ok-Import.field-0-is at c.in-Ok-Import.ensures in
    let told = c.in_ok-told-in-Ok-Import.ensures in
    import_answered g.K.Keeper
    g.C.Clock.tells _ _
    (record {
      method = c.args.method;
      target = c.args.target.now;
      body = c.args.body.now;
      is_last =
          c.args.is_last;
    }) _ _ _ _ c.in_ok-told-in-Ok-Import.told
    told.0 _ _ asks told.1 told.2 c.told_answer-in-Ok-Import.result
    c.told_answer-in-Ok-Import.ensures

pub returns-in-Ok-Read : goal.returns-in-Ok-Read
returns-in-Ok-Read g c =
    let asks = rw c.in-Ok-Read.field-0-is at c.in-Ok-Read.ensures in
    let told = rw c.names.ensures at c.answer_read.ensures in
    read_answered g.K.Keeper
    g.C.Clock.tells _ _
    (record {
      method = c.args.method;
      target = c.args.target.now;
      body = c.args.body.now;
      is_last =
          c.args.is_last;
    }) _ _ _ c.in-Ok-Read.asked asks told.0 told.1 c.answer_read.result told.2

pub returns-in-Ok-Page : goal.returns-in-Ok-Page
returns-in-Ok-Page g c =
    let asks = rw c.in-Ok-Page.field-0-is at c.in-Ok-Page.ensures in
    page_answered g.K.Keeper
    g.C.Clock.tells _ _
    (record {
      method = c.args.method;
      target = c.args.target.now;
      body = c.args.body.now;
      is_last =
          c.args.is_last;
    }) _ _ _ asks (none_made steps_of g.K.Keeper.content g.K.Keeper.sound g.K.Keeper.limit
    g.K.Keeper.fault_count _) c.shown_answer.result
    (rw (c.as_bytes.ensures.value, c.page.ensures) at c.shown_answer.ensures)
