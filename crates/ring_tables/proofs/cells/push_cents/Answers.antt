use Rattle.std.proofs.Common.{rules, ◌≡◌, ◌++◌, ◌∷◌, ◌/◌, [], string_bytes, decimal}
use Rattle.std.proofs.lemmas.Result.{on_ok_weaker}
use Rattle.ring_tables.proofs.Padding.{two_added}
use Rattle.ring_tables.proofs.cells.push_cents.Goals as goal

pub returns : goal.returns
returns c =
    let t0 = string_bytes c.args.into.now in
    let t1 = string_bytes c.push_str.new.self in
    let t2 = string_bytes c.push_decimal.new.into in
    let t3 = string_bytes c.push_decimal-2.new.into in
    let first : t1 ≡ t0 ++ 46 ∷ [] = search rules in
    let second : t2 ≡ t1 ++ (decimal (c.args.cents / 10) ++ []) = search rules in
    on_ok_weaker c.push_decimal-2.result
    (two_added t0 t1 t2 t3 c.args.end.now c.args.cents c.requires first second)
    c.push_decimal-2.ensures
