use Rattle.std.proofs.Common.{rules, ◌≡◌, ◌++◌, ◌∷◌, [], OnOk, string_bytes, decimal}
use Rattle.std.proofs.lemmas.Result.{on_ok_weaker}
use Rattle.ring_words.specs.Texts.{address_text}
use Rattle.ring_tables.specs.Layout.{at_left, at_right}
use Rattle.ring_tables.proofs.RowByRow.{four}
use Rattle.ring_tables.proofs.devices.push_place.Goals as goal

pub returns : goal.returns
returns c =
    let row = c.args.device.now.row in
    let t0 = string_bytes c.args.into.now in
    let t1 = string_bytes c.push_number.new.into in
    let t2 = string_bytes c.push_number-2.new.into in
    let t3 = string_bytes c.push_address_cell.new.into in
    let t4 = string_bytes c.push_number-3.new.into in
    let first : t1 ≡ t0 ++ (at_right 6 (decimal row.region) ++ 32 ∷ []) = search rules in
    let second : t2 ≡ t1 ++ (at_right 5 (decimal row.zone) ++ 32 ∷ []) = search rules in
    let third : t3 ≡ t2 ++ (at_left 15 (address_text row.address) ++ 32 ∷ []) = search rules in
    let fourth : OnOk c.push_number-3.result (t4 ≡ t3 ++ (at_right 5 (decimal row.port) ++ 32 ∷ []))
    = search rules in
    on_ok_weaker c.push_number-3.result (four t0 t1 t2 t3 t4 _ _ _ _ first second third) fourth
