-- What holds of each member holds of each after one more was put among them.
use Rattle.std.proofs.Common.{◌≡◌, ℕ, ◌≤◌, List, Ordering, Less, Equal, Greater, refl, sym}
use Rattle.std.proofs.Common.{ap, subst, ◌∙◌, arith}
use Rattle.std.specs.Prelude.{⊤}
use Rattle.std.specs.Ordering.{nat_cmp, match_ordering, is_eq}
use Rattle.std.specs.Cmp.Lexicographic.{slice_cmp}
use Rattle.std.proofs.lemmas.Map.Text.{is_eq-slice_cmp}
use Rattle.std.proofs.lemmas.Slice.Eq.{bytes_eq-Decides}
use Rattle.serde_json.specs.Data.{Data, Members, no_members, member, put, depth, members_depth}

abbrev pub EachMember : (List ℕ → Data → Type 0) → Members → Type 0
EachMember P no_members = ⊤
EachMember P (member k d ms) = P k d × EachMember P ms

put_at : (P : List ℕ → Data → Type 0) (o : Ordering) (k l : List ℕ) (d e : Data) (ms : Members)
    → slice_cmp nat_cmp k l ≡ o → P k d → P l e × EachMember P ms → EachMember P (put k d ms)
    → EachMember P
    (match_ordering o (member k d (member l e ms)) (member l d ms) (member l e (put k d ms)))
put_at P Less k l d e ms is first all more = (first, all)
put_at P Equal k l d e ms is first all more =
    let same : k ≡ l = (bytes_eq-Decides k l).0 (sym (is_eq-slice_cmp k l) ∙ ap is_eq is) in
    (subst (λ (x : List ℕ). P x d) same first, all.1)
put_at P Greater k l d e ms is first all more = (all.0, more)

pub each_put : (P : List ℕ → Data → Type 0) (k : List ℕ) (d : Data) (ms : Members) → P k d
    → EachMember P ms → EachMember P (put k d ms)
each_put P k d no_members first all = (first, tt)
each_put P k d (member l e ms) first all =
    put_at P (slice_cmp nat_cmp k l) k l d e ms refl first all (each_put P k d ms first all.1)

pub all_low : (n : ℕ) (ms : Members) → EachMember (λ k d. depth d ≤ n) ms → members_depth ms ≤ n
all_low n no_members all = omega arith
all_low n (member k d ms) all = let first = all.0 in let rest = all_low n ms all.1 in
    omega (arith, first, rest)
