use Rattle.std.proofs.Common.{rules, ◌≡◌, ◌++◌, ◌∷◌, [], string_bytes, decimal}
use Rattle.ring_words.specs.Texts.{hundredths_text}
use Rattle.ring_tables.specs.Layout.{at_left, at_right, cells}
use Rattle.ring_tables.specs.Tables.{state_text, place_columns, place_texts}
use Rattle.ring_tables.proofs.RowByRow.{eight}
use Rattle.ring_tables.proofs.devices.push_device.Goals as goal

pub returns : goal.returns
returns c =
    let device = c.args.device.now in
    let t0 = string_bytes c.args.into.now in
    let t1 = string_bytes c.push_number.new.into in
    let t2 = string_bytes c.push_place.new.into in
    let t3 = string_bytes c.push_hundredths.new.into in
    let t4 = string_bytes c.push_left.new.into in
    let t5 = string_bytes c.push_str.new.self in
    let t6 = string_bytes c.push_str-2.new.self in
    let first : t1 ≡ t0 ++ (at_right 5 (decimal device.id) ++ 32 ∷ []) = search rules in
    let second : t2 ≡ t1 ++ (cells place_columns (place_texts device) ++ 32 ∷ []) = search rules in
    let third : t3 ≡ t2 ++ (at_right 10 (hundredths_text device.row.weight) ++ 32 ∷ []) =
    search rules in
    let fourth : t4 ≡ t3 ++ (at_left 7 (state_text device) ++ 32 ∷ []) = search rules in
    let fifth : t5 ≡ t4 ++ device.row.name = search rules in
    let sixth : t6 ≡ t5 ++ 10 ∷ [] = search rules in
    eight t0 t1 t2 t3 t4 t5 t6 _ _ _ _ _ _ _ _ first second third fourth fifth sixth
