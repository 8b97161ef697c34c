use Rattle.std.proofs.Common.{ap, sym, ◌∙◌}
use Rattle.std.specs.FinMap.{entries}
use Rattle.std.proofs.lemmas.List.Elements.{recursion_from_All}
use Rattle.store_model.specs.Contents.{Contents}
use Rattle.store_model.proofs.Keys.{name_number_total, name_number_exact, seat_total, seat_exact}
use Rattle.store_rows.specs.Stands.{IsNamedRing}
use Rattle.store_rows.proofs.FirstOrdered.{moved_sorted, seats_sorted}
use Rattle.store_rows.proofs.FirstRings.{first_parts}
use Rattle.store_rows.proofs.Maps.{entries_of}
use Rattle.store_rows.proofs.OneStore.{one_store}
use Rattle.store_rows.proofs.Ordered.{up}
use Rattle.store_rows.proofs.laws.one_first_content.Goals as goal

pub returns : goal.returns
returns c = λ a b p q same. one_store c.one_text.ensures c.one_reply.ensures a b p q 1
    (ap (λ (x : Contents). x.meta) same) (ap (λ (x : Contents). x.rings) same)
    (ap (λ (x : Contents). x.devices) same) (ap (λ (x : Contents). x.published) same)
    (ap (λ (x : Contents). x.requests) same)
    (λ rings. first_parts a.state b.state (recursion_from_All IsNamedRing a.state p.rings.each)
    (recursion_from_All IsNamedRing b.state q.rings.each) (up a.state p.rings) (up b.state q.rings)
    rings
    (sym (entries_of seat_total seat_exact _ (seats_sorted a.state p.rings))
    ∙ ap (λ (x : Contents). entries x.seats) same
    ∙ entries_of seat_total seat_exact _ (seats_sorted b.state q.rings))
    (sym (entries_of name_number_total name_number_exact _ (moved_sorted a.state p.rings))
    ∙ ap (λ (x : Contents). entries x.moved) same
    ∙ entries_of name_number_total name_number_exact _ (moved_sorted b.state q.rings)))
