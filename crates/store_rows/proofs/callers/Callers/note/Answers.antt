use Rattle.std.proofs.Common.{◌≡◌, ◌∙◌, ap, cond, List, Some, max, refl, rules, subst, sym, ℕ}
use Rattle.std.specs.BTreeMap.{BTreeMap, get, is_at}
use Rattle.std.specs.Cmp.Lexicographic.{slice_cmp}
use Rattle.std.specs.Ordering.{nat_cmp}
use Rattle.store_rows.specs.Callers.{next_number, next_with}
use Rattle.store_rows.proofs.Used.{found_number, greater_next, never, next_put}
use Rattle.store_rows.proofs.callers.Callers.note.Goals as goal

pub returns-in-Some-clause-ok : goal.returns-in-Some-clause-ok
returns-in-Some-clause-ok c =
    let w = c.max.result in
    let found = c.in-Some.ensures.value in
    subst (λ used. (caller : List ℕ) → next_number (c.get_mut.follows.lender w).entries caller
    ≡ next_with c.args.key.now used caller) c.self.view_is (next_put c.self.inside.greatest
    (c.get_mut.follows.lender w) c.args.key.now w ((c.get_mut.follows.holds w).3 (search rules)).0
    (greater_next _ c.args.key.now.number w (λ e. absurd
    (never found e)) (λ g e. c.max.ensures ∙ ap (max c.args.key.now.number) (found_number found e))))

pub returns-clause-ok : goal.returns-clause-ok
returns-clause-ok c =
    let found = c.in_default.ensures.value in
    let updates : (q : List ℕ) → get (slice_cmp nat_cmp) c.insert.new.self q ≡ cond (is_at
    (slice_cmp nat_cmp c.args.key.now.caller) q) (Some c.args.key.now.number)
    (get (slice_cmp nat_cmp) c.self.inside.greatest q) = λ q. subst (λ (m : BTreeMap (List ℕ) ℕ).
    get (slice_cmp nat_cmp) c.insert.new.self q ≡ cond (is_at
    (slice_cmp nat_cmp c.args.key.now.caller) q) (Some c.args.key.now.number)
    (get (slice_cmp nat_cmp) m q)) c.get_mut.follows.holds-at-none (subst (λ (k : List ℕ).
    get (slice_cmp nat_cmp) c.insert.new.self q ≡ cond (is_at (slice_cmp nat_cmp k) q)
    (Some c.args.key.now.number) (get (slice_cmp nat_cmp) c.get_mut.follows.lender-at-none q))
    c.in_ok-caller.ensures.cases (c.in_ok-insert.ensures.updates.0 q)) in
    subst (λ used. (caller : List ℕ) → next_number c.insert.new.self.entries caller
    ≡ next_with c.args.key.now used caller) c.self.view_is (next_put c.self.inside.greatest
    c.insert.new.self c.args.key.now c.args.key.now.number updates
    (greater_next _ c.args.key.now.number c.args.key.now.number (λ e. refl) (λ g e. absurd
    (never (sym e) (sym found)))))
