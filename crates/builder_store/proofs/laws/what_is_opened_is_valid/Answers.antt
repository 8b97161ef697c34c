use Rattle.std.proofs.lemmas.List.Elements.{All-weaker}
use Rattle.store_rows.specs.Stands.{IsNamedRing}
use Rattle.builder_store.proofs.laws.what_is_opened_is_valid.Goals as goal

pub returns : goal.returns
returns c = λ db content opened.
    let holdable = opened.2.holdable in (
      record {
        count = holdable.rings.count;
        by_name = holdable.rings.by_name;
        named = All-weaker IsNamedRing _ (λ ring is. is.name) content.state holdable.rings.each;
        each = All-weaker IsNamedRing _ (λ ring is. is.valid) content.state holdable.rings.each;
      },
      holdable.small,
    )
