use Rattle.std.proofs.Common.{ap, sym, ◌∙◌, refl, ◌≡◌, pos, to_z, of_z, w64, arith}
use Rattle.std.specs.String.{string_bytes}
use Rattle.std.proofs.lemmas.Int.{ints}
use Rattle.store_model.specs.Changes.{with_decided}
use Rattle.store_model.specs.declared.rows.MetaRow.{MetaRow}
use Rattle.store_model.specs.declared.rows.RequestRow.{RequestRow}
use Rattle.store_rows.specs.Stands.{DecidedRequest, contents_for}
use Rattle.store_rows.proofs.BookGains.{stands_more, holds_more}
use Rattle.store_rows.proofs.requests.decided_rows.Goals as goal

pub returns-clause-rows : goal.returns-clause-rows
returns-clause-rows c = λ content count none.
    let e : DecidedRequest = record {
      key = c.args.key.now;
      hour = c.args.hour;
      command =
          c.args.command.now;
      reply = c.args.reply.now;
    } in
    let n : to_z w64 (of_z w64 c.from.result) ≡ pos c.args.key.now.number = omega (arith, ints) in
    let p : to_z w64 (of_z w64 c.from-2.result) ≡ pos c.args.count = omega (arith, ints) in
    let h : to_z w64 (of_z w64 c.from-3.result) ≡ pos c.args.hour = omega (arith, ints) in
    let caller : string_bytes c.in_ok-from_str.field-0 ≡ c.args.key.now.caller =
    c.in_ok-from_str.ensures.ok ∙ c.as_str.ensures.text in
    let row : RequestRow = record {
      caller = c.in_ok-from_str.field-0;
      number = to_z w64 (of_z w64 c.from.result);
      place = to_z w64 (of_z w64 c.from-2.result);
      hour = to_z w64 (of_z w64 c.from-3.result);
      command = c.in_ok-command_text.field-0;
      reply = c.in_ok-reply_text.field-0;
    } in
    ap (λ (m : MetaRow). with_decided (contents_for content) row m) c.meta_row.ensures
    ∙ stands_more content e none _ _ _ (λ i. (caller i, n i))
    (λ i. record {
      place = (p ∙ ap pos (sym count)) i;
      hour = h i;
      command =
          c.in_ok-command_text.ensures i;
      reply = c.in_ok-reply_text.ensures i;
    }) refl

pub returns-clause-holdable : goal.returns-clause-holdable
returns-clause-holdable c = λ content held count none later.
    holds_more content _ held (omega (arith, c.requires)) (record {
      caller = c.as_str.ensures.valid;
      number = omega arith;
      hour = omega arith;
      command = c.command_is_proper.ensures;
      reply = c.reply_is_proper.ensures;
    }) none later
