use Rattle.std.proofs.Common.{rules, ◌≡◌, ◌++◌, ◌∷◌, ◌∙◌, [], OnOk, ap, string_bytes, decimal, ℕ}
use Rattle.std.proofs.lemmas.Result.{on_ok_weaker}
use Rattle.ring_words.specs.Texts.{hundredths_text}
use Rattle.ring_share.specs.Figures.{device_balance}
use Rattle.ring_tables.specs.Layout.{at_right}
use Rattle.ring_tables.proofs.RowByRow.{five}
use Rattle.ring_tables.proofs.balances.push_balance.Goals as goal

pub returns : goal.returns
returns c =
    let ring = c.args.ring.now in
    let device = c.args.device.now in
    let t0 = string_bytes c.args.into.now in
    let t1 = string_bytes c.push_number.new.into in
    let t2 = string_bytes c.push_hundredths.new.into in
    let t3 = string_bytes c.push_number-2.new.into in
    let t4 = string_bytes c.push_number-3.new.into in
    let t5 = string_bytes c.push_hundredths-2.new.into in
    let first : t1 ≡ t0 ++ (at_right 5 (decimal device.id) ++ 32 ∷ []) = search rules in
    let second : t2 ≡ t1 ++ (at_right 10 (hundredths_text device.row.weight) ++ 32 ∷ []) =
    search rules in
    let third : t3 ≡ t2 ++ (at_right 6 (decimal c.args.want) ++ 32 ∷ []) = search rules in
    let seats : t4 ≡ t3 ++ (at_right 6 (decimal c.args.seats) ++ 32 ∷ []) = search rules in
    let fourth = seats ∙ ap (λ (n : ℕ). t3 ++ (at_right 6 (decimal n) ++ 32 ∷ [])) c.requires in
    let fifth : OnOk c.push_hundredths-2.result (t5 ≡ t4 ++
    (at_right 7 (hundredths_text (device_balance ring device)) ++ 10 ∷ [])) = search rules in
    on_ok_weaker c.push_hundredths-2.result (five t0 t1 t2 t3 t4 t5 _ _ _ _ _ first second third
    fourth) fifth
