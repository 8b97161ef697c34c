-- The draws of a seed, and what is put in an order that is drawn.
use Rattle.std.specs.Prelude.{ℕ, ◌+◌, ◌*◌, ◌/◌, List, length}
use Rattle.std.specs.List.{swap}
use Rattle.rand_pcg.specs.Lcg.{Lcg, increment_of, started}
use Rattle.rand_pcg.specs.Pcg.{multiplier_64, pcg32}
use Rattle.ring_words.specs.Limits.{long_count}
use Rattle.ring_room.specs.Steps.{after_steps}

-- the draws of a seed
abbrev pub draws_of : ℕ → Lcg
draws_of seed = started 64 multiplier_64 seed (increment_of 64 0)

-- a number below a bound, and the draws after it
abbrev pub draw_below : ℕ → Lcg → ℕ × Lcg
draw_below bound draws = ((pcg32 draws).0 * bound / long_count, (pcg32 draws).1)

-- the number at a place is swapped with one that is drawn
abbrev pub swap_at : {A : Type 0} → ℕ → List A × Lcg → List A × Lcg
swap_at place now = (swap now.0 place (draw_below (place + 1) now.1).0, (draw_below (place + 1) now.1).1)

-- items in an order that is drawn
abbrev pub shuffled : {A : Type 0} → List A → Lcg → List A × Lcg
shuffled items draws = after_steps swap_at (length items) (items, draws)
