-- The query of a part of the log.
use Rattle.std.proofs.Common.{◌≡◌, ◌∙◌, ℕ, ◌+◌, ◌≤◌, List, Option, None, Some, Err, ap, arith, codes}
use Rattle.std.proofs.Common.{length, subst, sym}
use Rattle.std.specs.Prelude.{unwrap_or}
use Rattle.std.specs.Option.{option_to_list}
use Rattle.ring_words.specs.Spelling.{Reads}
use Rattle.ring_words.specs.declared.spelling.SpellingFault.{SpellingFault}
use Rattle.ring_words.specs.declared.spelling.SpellingFault.TheVariants.{Bad, NoMemory}
use Rattle.http_routes.specs.Inner.Pairs.{IsValueOr}
use Rattle.http_routes.specs.Queries.{IsLogQuery, values_of_pairs}

abbrev Pairs : Type 0
Pairs = List (List ℕ × List ℕ)

pub one_at_most : (text : Option (List ℕ)) → length (option_to_list text) ≤ 1
one_at_most None = omega arith
one_at_most (Some x) = omega arith

-- what is found in the pairs as they are held is found in those of the query
pub found_in : (name other : List ℕ) (held pairs : Pairs) (value : List ℕ) (count : ℕ) →
    held ≡ pairs → IsValueOr name other held value count → IsValueOr name other pairs value count
found_in name other held pairs value count same found =
    subst (λ (all : Pairs). IsValueOr name other all value count) same found

-- pairs that say no part of the log are no such query
pub unsaid : (pairs : Pairs) (fault : SpellingFault) →
    ((from most : ℕ) → IsLogQuery pairs from most → ⊥) →
    Reads (λ (x : ℕ × ℕ). IsLogQuery pairs x.0 x.1) (Err fault)
unsaid pairs NoMemory none = tt
unsaid pairs Bad none = λ x. none x.0 x.1

-- a query has as many pairs as its values are
pub counted : (pairs : Pairs) (place size : List ℕ) (places sizes : ℕ) →
    IsValueOr (codes "from") (codes "0") pairs place places →
    IsValueOr (codes "most") (codes "100") pairs size sizes →
    (from most : ℕ) → IsLogQuery pairs from most → length pairs ≡ places + sizes
counted pairs place size places sizes first second from most said =
    let a : length (option_to_list said.from_text) ≡ length (option_to_list first.0) =
    ap (λ (texts : List (List ℕ)). length texts) (sym said.from_once ∙ first.1) in
    let b : length (option_to_list said.most_text) ≡ length (option_to_list second.0) =
    ap (λ (texts : List (List ℕ)). length texts) (sym said.most_once ∙ second.1) in
    omega (arith, a, b, first.3, second.3, said.nothing_else)

-- the value that a query says for a name is the one that is found
text_of : (texts : List (List ℕ)) (a b : Option (List ℕ)) → texts ≡ option_to_list a →
    texts ≡ option_to_list b → a ≡ b
text_of texts None None one other = cc
text_of texts None (Some y) one other = cc (one, other)
text_of texts (Some x) None one other = cc (one, other)
text_of texts (Some x) (Some y) one other = cc (one, other)

pub place_said : (pairs : Pairs) (place : List ℕ) (places from most : ℕ) →
    IsValueOr (codes "from") (codes "0") pairs place places →
    (said : IsLogQuery pairs from most) → unwrap_or said.from_text (codes "0") ≡ place
place_said pairs place places from most first said =
    ap (λ (text : Option (List ℕ)). unwrap_or text (codes "0"))
    (text_of (values_of_pairs (codes "from") pairs) said.from_text first.0 said.from_once first.1)
    ∙ sym first.2

pub size_said : (pairs : Pairs) (size : List ℕ) (sizes from most : ℕ) →
    IsValueOr (codes "most") (codes "100") pairs size sizes →
    (said : IsLogQuery pairs from most) → unwrap_or said.most_text (codes "100") ≡ size
size_said pairs size sizes from most second said =
    ap (λ (text : Option (List ℕ)). unwrap_or text (codes "100"))
    (text_of (values_of_pairs (codes "most") pairs) said.most_text second.0 said.most_once second.1)
    ∙ sym second.2
