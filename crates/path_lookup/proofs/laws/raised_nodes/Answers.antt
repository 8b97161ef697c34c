use Rattle.std.proofs.Common.{ℕ, ◌/◌, ◌^◌, ◌-◌, take, sym, subst}
use Rattle.std.specs.Int.{w32, from_be_bytes}
use Rattle.path_lookup.specs.Nodes.{AreSeated, path_hash}
use Rattle.path_lookup.proofs.Halves.{half_to_whole, whole_to_half, of_halves}
use Rattle.path_lookup.proofs.laws.raised_nodes.Goals as goal

pub returns : goal.returns
returns c = λ old new prefix suffix ids names raised low.
    let front = from_be_bytes w32 (take 4 (path_hash prefix names suffix)) in
    let same = of_halves old new front raised low in (
      λ seated. subst (λ (p : ℕ). AreSeated old p ids) same
          (half_to_whole old new (front / 2 ^ (32 - new.power)) ids raised seated),
      λ seated. whole_to_half old new (front / 2 ^ (32 - new.power)) ids raised
          (subst (λ (p : ℕ). AreSeated old p ids) (sym same) seated),
    )
