-- Rows are one exactly where the test says so.
use Rattle.std.proofs.Common.{◌≡◌, ℕ, List, true, sym, ap, ◌∙◌, subst}
use Rattle.std.specs.Bool.{Decides}
use Rattle.std.specs.Cmp.{unsigned_Decides}
use Rattle.std.specs.Cmp.Lexicographic.{pointwise, pointwise_decides, same_text}
use Rattle.std.proofs.lemmas.Bool.{and_parts}
use Rattle.ring_words.specs.Rows.{is_same_row}
use Rattle.ring_words.specs.Inner.SameRows.{row_equiv}
use Rattle.ring_words.specs.declared.device.Row.{Row}

abbrev row_of : ℕ → ℕ → ℕ → ℕ → List ℕ → ℕ → Row
row_of region zone address port name weight = record {
  region = region;
  zone = zone;
  address =
      address;
  port = port;
  name = name;
  weight = weight;
}

pub same_row : (a b : Row) → (a.region ≡ b.region) × ((a.zone ≡ b.zone) × ((a.address ≡ b.address) ×
    ((a.port ≡ b.port) × ((a.name ≡ b.name) × (a.weight ≡ b.weight))))) → a ≡ b
same_row a b h =
    ap (λ (x : ℕ). row_of x a.zone a.address a.port a.name a.weight) h.0
    ∙ ap (λ (x : ℕ). row_of b.region x a.address a.port a.name a.weight) h.1.0
    ∙ ap (λ (x : ℕ). row_of b.region b.zone x a.port a.name a.weight) h.1.1.0
    ∙ ap (λ (x : ℕ). row_of b.region b.zone b.address x a.name a.weight) h.1.1.1.0
    ∙ ap (λ (x : List ℕ). row_of b.region b.zone b.address b.port x a.weight) h.1.1.1.1.0
    ∙ ap (λ (x : ℕ). row_of b.region b.zone b.address b.port b.name x) h.1.1.1.1.1

pub one_row : (a b : Row) → Decides (is_same_row a b) (a ≡ b)
one_row a b = (
  λ is.
      let region = and_parts _ _ is in
      let zone = and_parts _ _ region.1 in
      let address = and_parts _ _ zone.1 in
      let port = and_parts _ _ address.1 in
      let name = and_parts _ _ port.1 in
      same_row a b (
        (unsigned_Decides a.region b.region).0 region.0,
        (
          (unsigned_Decides a.zone b.zone).0 zone.0,
          (
            (unsigned_Decides a.address b.address).0 address.0,
            (
              (unsigned_Decides a.port b.port).0 port.0,
              (
                same_text a.name b.name (sym name.0),
                (unsigned_Decides a.weight b.weight).0 name.1,
              ),
            ),
          ),
        ),
      ),
  λ one. subst (λ (r : Row). is_same_row a r ≡ true) one (row_equiv.refl a),
)

pub one_list : (xs ys : List Row) → Decides (pointwise is_same_row xs ys) (xs ≡ ys)
one_list = pointwise_decides one_row
