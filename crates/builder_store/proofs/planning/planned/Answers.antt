use Rattle.std.proofs.Common.{◌∙◌, ap, subst}
use Rattle.store_rows.specs.Differences.{with_state}
use Rattle.store_rows.specs.OwnTexts.{HavePublishedOwn}
use Rattle.store_rows.specs.Stands.{AreRings, RingContent}
use Rattle.store_model.specs.Changes.{with_decided}
use Rattle.builder_store.proofs.planning.planned.Goals as goal

pub returns : goal.returns
returns c = λ content next.
    let change = c.in_ok-change.ensures in
    let made = c.in_ok-rows.ensures in
    let rows = c.in_ok-rows.rows in
    let after : RingContent = with_state content c.args.new.now in
    record {
      holdable = made.holdable after (record {
        rings = change.rings;
        texts = next.published (subst AreRings next.held next.holdable.rings)
            (subst HavePublishedOwn next.held next.holdable.texts);
        book = next.holdable.book;
        hour = next.holdable.hour;
        small = next.holdable.small;
      }) next.counted next.unknown next.later;
      stands = ap (λ x. with_decided x rows.request rows.meta) ((change.leads next.changed).applied
          content next.held) ∙ made.rows after next.counted next.unknown;
    }
