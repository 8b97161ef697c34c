-- How many lines the front of bytes has.
use Rattle.std.proofs.Common.{◌≡◌, ℕ, ◌≤◌, Bool, List, Bor, length, take, map, sym, ap, arith}
use Rattle.std.specs.Prelude.{◌==◌}
use Rattle.std.specs.List.{count_by, slice_split}
use Rattle.std.proofs.lemmas.List.{length-map}
use Rattle.std.proofs.lemmas.List.Sums.{sum_by-take-le}
use Rattle.std.proofs.lemmas.List.Splits.{length-slice_split}
use Rattle.ring_text.specs.Stops.{line_count}

-- the front of bytes has no more lines than they have
pub lines_of_front : (bytes text : List ℕ) (n : ℕ) → text ≡ take n bytes →
    line_count text ≤ line_count bytes
lines_of_front bytes text n front =
    let p : ℕ → Bool = λ b. b == 10 in
    let few : count_by p (take n bytes) ≤ count_by p bytes = sum_by-take-le _ bytes n in
    let same : count_by p text ≡ count_by p (take n bytes) = ap (count_by p) front in
    omega (arith, few, same, length-slice_split p bytes, length-slice_split p text)

-- bytes have a line
pub some_line : (bytes : List ℕ) → 1 ≤ line_count bytes
some_line bytes = omega (arith, length-slice_split (λ b. b == 10) bytes)

-- how many lines are lent of a text
pub lent_count : (text : List ℕ) (lines : List (Bor (List ℕ))) →
    map (λ line. line.now) lines ≡ slice_split (λ b. b == 10) text →
    length lines ≡ line_count text
lent_count text lines are = sym (simp length-map at (ap (λ (t : List (List ℕ)). length t)
    (sym are)))
