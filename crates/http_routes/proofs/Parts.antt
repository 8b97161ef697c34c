-- What the names of a route take of a path that follows its pattern.
use Rattle.std.proofs.Common.{◌≡◌, ℕ, suc, ◌+◌, ◌-◌, ◌≤◌, List, [], ◌∷◌, ◌++◌, length, drop}
use Rattle.std.proofs.Common.{Bool, true, false, cond, refl, sym, ap, ◌∙◌, arith, ◌==◌, ltb, leb}
use Rattle.std.proofs.Common.{◌&&◌, get_or}
use Rattle.std.proofs.lemmas.Bool.Decides.{nat_tests}
use Rattle.std.proofs.lemmas.List.{length-append, length-drop, take_at, drop_at, drop-drop}
use Rattle.std.proofs.lemmas.List.{get_or-drop, append-nil}
use Rattle.matchit.proofs.ParamLemmas.{length-segment}
use Rattle.matchit.specs.Level.{IsText}
use Rattle.matchit.specs.Seek.{segment}
use Rattle.matchit.specs.Params.{walk, wild_from, wild_stop, part_of, after_token}
use Rattle.http_routes.proofs.Finding.{IsFree, free-segment}

pairs-are : (x y : ℕ × ℕ) → x.0 ≡ y.0 → x.1 ≡ y.1 → x ≡ y
pairs-are x y e f = λ i. (e i, f i)

-- the literals before a parameter stand for themselves
wild-at : (w t : List ℕ) (len token at : ℕ) → IsText w → at + length w ≤ len
    → wild_from (w ++ 256 ∷ t) len token at ≡ (token + length w, at + length w)
wild-at [] t len token at text fits = pairs-are (token, at) (token + 0, at + 0) (omega arith)
    (omega arith)
wild-at (x ∷ w) t len token at text fits =
    let byte : ltb x 256 ≡ true = grind (arith, nat_tests, text.0) in
    let inside : ltb at len ≡ true = grind (arith, nat_tests) in
    rw (byte, inside) (wild-at w t len (token + 1) (at + 1) text.1 (omega (arith, fits))
    ∙ pairs-are (token + 1 + length w, at + 1 + length w)
    (token + suc (length w), at + suc (length w)) (omega arith) (omega arith))

walk-one : (p t a : List ℕ) (name : ℕ × ℕ) (names : List (ℕ × ℕ)) (tok at stop : ℕ) (w : ℕ × ℕ)
    → wild_from (drop tok p) (length a) tok at ≡ w → wild_stop p w.0 a w.1 ≡ stop
    → walk p t a (name ∷ names) tok at
    ≡ (part_of t name.0 name.1, part_of a w.1 stop) ∷ walk p t a names (after_token w.0) stop
walk-one p t a name names tok at stop w from to = rw (from, to) refl

part-is : (a : List ℕ) (at : ℕ) (piece rest : List ℕ) → at ≤ length a → drop at a ≡ piece ++ rest
    → part_of a at (at + length piece) ≡ piece
part-is a at piece rest inside is =
    let long : length (drop at a) ≡ length piece + length rest = ap (λ (l : List ℕ). length l) is
    ∙ length-append piece rest in
    let ordered : leb at (at + length piece) ≡ true = grind (arith, nat_tests) in
    let fits : leb (at + length piece) (length a)
    ≡ true = grind (arith, nat_tests, length-drop at a, long) in
    let many : at + length piece - at ≡ length piece = omega arith in
    rw (ordered, fits, many, is) (take_at piece rest (length piece) refl)

drop-past : (l w rest : List ℕ) (at : ℕ) → drop at l ≡ w ++ rest → drop (at + length w) l ≡ rest
drop-past l w rest at is =
    sym (drop-drop (length w) at l) ∙ ap (λ (x : List ℕ). drop (length w) x) is
    ∙ drop_at w rest (length w) refl

first-past : (l rest : List ℕ) (at x : ℕ) → drop at l ≡ x ∷ rest → get_or l at 0 ≡ x
first-past l rest at x is =
    let whole : at + 0 ≡ at = omega arith in
    ap (λ (n : ℕ). get_or l n 0) (sym whole) ∙ sym (get_or-drop at l 0 0)
    ∙ ap (λ (y : List ℕ). get_or y 0 0) is

rest-past : (l rest : List ℕ) (at x : ℕ) → drop at l ≡ x ∷ rest → drop (at + 1) l ≡ rest
rest-past l rest at x is = sym (drop-drop 1 at l) ∙ ap (λ (y : List ℕ). drop 1 y) is

length-past : (l w rest : List ℕ) (at : ℕ) → at ≤ length l → drop at l ≡ w ++ rest → length l
    ≡ at + length w + length rest
length-past l w rest at inside is =
    let long : length l - at ≡ length w + length rest =
    sym (length-drop at l) ∙ ap (λ (y : List ℕ). length y) is ∙ length-append w rest in
    omega (arith, long, inside)

-- where a parameter's part ends that has a slash behind it
stop-before : (p path : List ℕ) (tok at : ℕ) (t piece rest : List ℕ) → IsFree piece → segment t
    ≡ 47 ∷ []
    → tok ≤ length p → drop tok p ≡ 256 ∷ t → drop at path ≡ piece ++ 47 ∷ rest
    → wild_stop p tok path at ≡ at + length piece
stop-before p path tok at t piece rest free slash short pattern is =
    let param : (get_or p tok 0 == 256)
    ≡ true = grind (arith, nat_tests, first-past p t tok 256 pattern) in
    let some : 1 ≤ length t = omega (arith, length-segment t, ap (λ (y : List ℕ). length y) slash)
    in
    let long : length p ≡ tok + 1 + length t = length-past p (256 ∷ []) t tok short pattern in
    let one : ltb tok (length p) ≡ true = grind (arith, nat_tests) in
    let two : ltb (tok + 1) (length p) ≡ true = grind (arith, nat_tests) in
    let cut : length (segment (drop at path)) ≡ length piece + 1 =
    ap (λ (y : List ℕ). length (segment y)) is
    ∙ ap (λ (y : List ℕ). length y) (free-segment piece rest free)
    ∙ length-append piece (47 ∷ []) in
    let tail : length (segment (drop (tok + 1) p)) ≡ 1 =
    ap (λ (y : List ℕ). length (segment y)) (rest-past p t tok 256 pattern)
    ∙ ap (λ (y : List ℕ). length y) slash in
    rw (one, param, two) (omega (arith, cut, tail))

-- a parameter with a slash behind it takes what stands before the next slash of the path
pub part-before : (p text path : List ℕ) (name : ℕ × ℕ) (names : List (ℕ × ℕ)) (tok at : ℕ)
    (w t piece rest : List ℕ)
    → IsText w → IsFree piece → segment t ≡ 47 ∷ [] → tok ≤ length p → at ≤ length path
    → drop tok p ≡ w ++ 256 ∷ t → drop at path ≡ w ++ (piece ++ 47 ∷ rest)
    → walk p text path (name ∷ names) tok at
    ≡ (part_of text name.0 name.1, piece) ∷ walk p text path names (after_token (tok + length w))
    (at + length w + length piece)
part-before p text path name names tok at w t piece rest bytes free slash short inside pattern is =
    let long : length path ≡ at + length w + length (piece ++ 47 ∷ rest) = length-past path w
    (piece ++ 47 ∷ rest) at inside is in
    let tokens : length p ≡ tok + length w + suc (length t) = length-past p w (256 ∷ t) tok short
    pattern in
    let fits : at + length w ≤ length path = omega (arith, long) in
    let from : wild_from (drop tok p) (length path) tok at ≡ (tok + length w, at + length w) =
    ap (λ (y : List ℕ). wild_from y (length path) tok at) pattern
    ∙ wild-at w t (length path) tok at bytes fits in
    let to : wild_stop p (tok + length w) path (at + length w) ≡ at + length w + length piece =
    stop-before p path (tok + length w) (at + length w) t piece rest free slash
    (omega (arith, tokens))
    (drop-past p w (256 ∷ t) tok pattern) (drop-past path w (piece ++ 47 ∷ rest) at is) in
    walk-one p text path name names tok at (at + length w + length piece)
    (tok + length w, at + length w) from to
    ∙ ap (λ (l : List ℕ). (part_of text name.0 name.1, l) ∷ walk p text path names
    (after_token (tok + length w)) (at + length w + length piece))
    (part-is path (at + length w) piece (47 ∷ rest) fits (drop-past path w (piece ++ 47 ∷ rest) at
    is))

-- a parameter at the end takes all that is left of the path
pub part-last : (p text path : List ℕ) (name : ℕ × ℕ) (tok at : ℕ) (w piece : List ℕ)
    → IsText w → tok ≤ length p → at ≤ length path
    → drop tok p ≡ w ++ 256 ∷ [] → drop at path ≡ w ++ piece
    → walk p text path (name ∷ []) tok at ≡ (part_of text name.0 name.1, piece) ∷ []
part-last p text path name tok at w piece bytes short inside pattern is =
    let long : length path ≡ at + length w + length piece = length-past path w piece at inside is in
    let tokens : length p ≡ tok + length w + 1 = length-past p w (256 ∷ []) tok short pattern in
    let fits : at + length w ≤ length path = omega (arith, long) in
    let from : wild_from (drop tok p) (length path) tok at ≡ (tok + length w, at + length w) =
    ap (λ (y : List ℕ). wild_from y (length path) tok at) pattern
    ∙ wild-at w [] (length path) tok at bytes fits in
    let last : ltb (tok + length w + 1) (length p) ≡ false = grind (arith, nat_tests) in
    let to : wild_stop p (tok + length w) path (at + length w) ≡ at + length w + length piece =
    stop-last p path (tok + length w) (at + length w) last ∙ long in
    walk-one p text path name [] tok at (at + length w + length piece)
    (tok + length w, at + length w) from to
    ∙ ap (λ (l : List ℕ). (part_of text name.0 name.1, l) ∷ [])
    (part-is path (at + length w) piece [] fits (drop-past path w piece at is
    ∙ sym (append-nil piece)))
  where
    stop-last : (p path : List ℕ) (tok at : ℕ) → ltb (tok + 1) (length p) ≡ false
        → wild_stop p tok path at ≡ length path
    stop-last p path tok at last = by (ltb tok (length p) && (get_or p tok 0 == 256))
      where
        by : (v : Bool) → cond (v && ltb (tok + 1) (length p))
            (at + length (segment (drop at path)) - length (segment (drop (tok + 1) p)))
            (length path) ≡ length path
        by true = rw last refl
        by false = refl
