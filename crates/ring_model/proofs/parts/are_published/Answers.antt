use Rattle.std.proofs.Common.{◌≡◌, map, arith}
use Rattle.std.proofs.lemmas.List.{length-map}
use Rattle.ring_model.specs.Parts.{texts_of}
use Rattle.ring_model.proofs.Copies.{versions_same}
use Rattle.ring_model.proofs.parts.are_published.Goals as goal

pub returns-then-is_few : goal.returns-then-is_few
returns-then-is_few c =
    let same : map (λ e. e.0) (texts_of c.args.published.now) ≡ map (λ e. e.0) c.args.published.now
    = versions_same c.args.published.now in (
      λ yes. record {
        count = rw length-map (omega arith);
        rise =
            rw same (c.are_versions_rising.ensures.0 yes);
        versions = c.texts_are_proper.ensures;
      },
      λ valid. c.are_versions_rising.ensures.1 (rw same at valid.rise),
    )
