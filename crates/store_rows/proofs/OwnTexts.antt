-- Texts that are judged one by one.
use Rattle.std.proofs.Common.{◌≡◌, ℕ, zero, suc, ◌<◌, ◌≤◌, All, List, [], ◌∷◌, Err, arith, map}
use Rattle.std.proofs.Common.{get_or, length, subst, sym, take}
use Rattle.std.proofs.lemmas.List.{take_all}
use Rattle.std.proofs.lemmas.List.Elements.{All-head, All-tail}
use Rattle.ring_words.specs.Spelling.{Reads}
use Rattle.ring_words.specs.declared.spelling.SpellingFault.{SpellingFault}
use Rattle.ring_words.specs.declared.spelling.SpellingFault.TheVariants.{Bad, NoMemory}
use Rattle.store_rows.proofs.Changing.{all_mapped}

module _ {X Y : Type 0} (P : Y → Type 0) (f : X → Y) where
  at_place : (xs : List X) (i : ℕ) (x : X) → i < length xs → x ≡ get_or xs i x → All P (map f xs) →
      P (f x)
  at_place [] i x lt is all = absurd (omega arith)
  at_place (y ∷ ys) zero x lt is all =
      subst (λ z. P (f z)) (sym is) (All-head P (f y) (map f ys) all)
  at_place (y ∷ ys) (suc i) x lt is all = at_place ys i x (omega arith) is
      (All-tail P (f y) (map f ys) all)

  -- Where one of a list is bad, so are all.
  pub one_bad : (xs : List X) (i : ℕ) (x : X) (fault : SpellingFault) → i < length xs →
      x ≡ get_or xs i x → Reads {X = Unit {0}} (λ _. P (f x)) (Err fault) →
      Reads {X = Unit {0}} (λ _. All P (map f xs)) (Err fault)
  one_bad xs i x Bad lt is bad = λ _ all. bad tt (at_place xs i x lt is all)
  one_bad xs i x NoMemory lt is bad = tt

  -- And where none was up to the end, none is.
  pub none_bad : (xs : List X) (n : ℕ) → length xs ≤ n → All (λ x. P (f x)) (take n xs) →
      All P (map f xs)
  none_bad xs n past all = all_mapped P f xs (subst (All (λ x. P (f x))) (take_all n xs past) all)
