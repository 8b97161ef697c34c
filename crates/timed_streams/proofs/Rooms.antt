-- What stands at the front of a room that is filled piece by piece.
use Rattle.std.proofs.Common.{◌≡◌, ◌≤◌, ℕ, ◌+◌, List, ◌++◌, length, take, ap, sym, ◌∙◌, subst}
use borrow.Rule.Slice.PartMut.{put_mid, post_of}
use Rattle.std.proofs.Math.Seq.{take-append-add}
use Rattle.std.proofs.lemmas.List.{length-take-le, take-append-le}

-- a piece of the rest is filled
pub front_after : (at k count : ℕ) (room piece : List ℕ) → at ≤ length room → count ≤ length piece →
    take (at + count) (put_mid at k room piece) ≡ take at room ++ take count piece
front_after at k count room piece some few =
    ap (λ (n : ℕ). take (n + count) (put_mid at k room piece)) (sym (length-take-le at room some))
    ∙ take-append-add (take at room) (piece ++ post_of at k room) count
    ∙ ap (λ (t : List ℕ). take at room ++ t)
    (take-append-le count piece (post_of at k room) few)
