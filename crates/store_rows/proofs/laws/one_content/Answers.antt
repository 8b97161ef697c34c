use Rattle.std.proofs.Common.{ap, sym, ◌∙◌}
use Rattle.std.specs.FinMap.{entries}
use Rattle.store_model.specs.Contents.{Contents}
use Rattle.store_model.proofs.Keys.{name_number_total, name_number_exact}
use Rattle.store_rows.proofs.Maps.{entries_of}
use Rattle.store_rows.proofs.OneStore.{one_store}
use Rattle.store_rows.proofs.Ordered.{parts_sorted}
use Rattle.store_rows.proofs.laws.one_content.Goals as goal

pub returns : goal.returns
returns c = λ a b p q same. one_store c.one_text.ensures c.one_reply.ensures a b p q 2
    (ap (λ (x : Contents). x.meta) same) (ap (λ (x : Contents). x.rings) same)
    (ap (λ (x : Contents). x.devices) same) (ap (λ (x : Contents). x.published) same)
    (ap (λ (x : Contents). x.requests) same)
    (λ _. sym (entries_of name_number_total name_number_exact _ (parts_sorted a.state p.rings))
    ∙ ap (λ (x : Contents). entries x.parts) same
    ∙ entries_of name_number_total name_number_exact _ (parts_sorted b.state q.rings))
