use Rattle.std.proofs.Common.{◌≡◌, ◌<◌, ◌^◌, ◌∙◌, ℕ, List, arith, length}
use Rattle.swift_ring.proofs.Sizes.{json_size}
use Rattle.swift_ring.proofs.file.write_swift_ring.Goals as goal

short_of : (bytes json : List ℕ) → bytes ≡ json → length json < 2 ^ 32 → length bytes < 2 ^ 32
short_of bytes json same small = rw same small

pub overflow_cast-length : goal.overflow_cast-length
overflow_cast-length c =
    let short = short_of _ _ (c.as_bytes-json.ensures.value ∙ c.in_ok-json.ensures)
    (json_size c.args.snapshot.now c.seats-seats.ensures.valid) in
    omega (arith, short)
