use Rattle.std.proofs.Common.{ℕ, IfOk, Result, Some, subst, sym}
use Rattle.std.specs.Prelude.{IsUtf8, Vec}
use Rattle.std.specs.declared.alloc.Global.{Global}
use Rattle.std.proofs.lemmas.Result.{IfOk-weaker}
use Rattle.request_book.specs.Call.{Load}
use Rattle.request_book.specs.declared.book.Fault.{Fault}
use Rattle.ring_log.specs.Inquiries.{AsksText}
use Rattle.ring_log.specs.declared.inquiry.Inquiry.{Inquiry}
use Rattle.ring_book.specs.Book.{Found, Made}
use Rattle.ring_book.specs.Reads.{IsReadAs}
use Rattle.ring_book.proofs.asking.read.Goals as goal

pub returns-in-Held-clause-told : goal.returns-in-Held-clause-told
returns-in-Held-clause-told g c =
    let old = c.args.book.now in
    let new = c.read_question.new.book in
    subst (λ (asked : Inquiry). (answer : Result (Unit {0}) Fault)
    × Made g.K.Keeper old new (Some (Load answer))
    × IsReadAs (Found g.K.Keeper c.args.clock old new) c.args.names.prefix.now
    c.args.names.suffix.now asked answer c.read_question.result
    (λ (bytes : Vec ℕ Global). bytes.items)) (sym c.in-Held.is) c.read_question.ensures.told

pub returns-in-Held-clause-text : goal.returns-in-Held-clause-text
returns-in-Held-clause-text g c = subst (λ (asked : Inquiry). IfOk c.read_question.result
    (λ (bytes : Vec ℕ Global). AsksText asked → IsUtf8 bytes.items)) (sym c.in-Held.is)
    c.read_question.ensures.text

pub returns-in-Log-clause-told : goal.returns-in-Log-clause-told
returns-in-Log-clause-told g c =
    let old = c.args.book.now in
    let new = c.read_log.new.book in
    let told = c.read_log.ensures.told in
    subst (λ (asked : Inquiry). (answer : Result (Unit {0}) Fault)
    × Made g.K.Keeper old new (Some (Load answer))
    × IsReadAs (Found g.K.Keeper c.args.clock old new) c.args.names.prefix.now
    c.args.names.suffix.now asked answer c.read_log.result
    (λ (bytes : Vec ℕ Global). bytes.items)) (sym c.in-Log.is)
    (told.0, told.1, told.2 c.args.clock c.args.names.prefix.now c.args.names.suffix.now)

pub returns-in-Log-clause-text : goal.returns-in-Log-clause-text
returns-in-Log-clause-text g c = IfOk-weaker c.read_log.result _ _ (λ bytes utf8 asks. utf8)
    c.read_log.ensures.text
