use Rattle.std.proofs.Common.{rules, ◌≡◌, ◌++◌, ◌∷◌, [], OnOk, string_bytes, decimal}
use Rattle.std.proofs.lemmas.Result.{on_ok_weaker}
use Rattle.ring_reads.specs.SeatMoves.{seat_word}
use Rattle.ring_reads.proofs.SeatMoving.{four_words}
use Rattle.ring_reads.proofs.moves_text.push_line.Goals as goal

pub returns : goal.returns
returns c =
    let one = c.args.one.now in
    let t0 = string_bytes c.args.into.now in
    let t1 = string_bytes c.push_decimal.new.into in
    let t2 = string_bytes c.push_decimal-2.new.into in
    let t3 = string_bytes c.push_seat.new.into in
    let t4 = string_bytes c.push_seat-2.new.into in
    let first : t1 ≡ t0 ++ (decimal one.partition ++ 32 ∷ []) = search rules in
    let second : t2 ≡ t1 ++ (decimal one.replica ++ 32 ∷ []) = search rules in
    let third : t3 ≡ t2 ++ (seat_word one.from ++ 32 ∷ []) = search rules in
    let fourth : OnOk c.push_seat-2.result (t4 ≡ t3 ++ (seat_word one.to ++ 10 ∷ [])) = search rules in
    on_ok_weaker c.push_seat-2.result (four_words t0 t1 t2 t3 t4 _ _ _ _ first second third) fourth
