use Rattle.std.proofs.Common.{◌≡◌, ◌∙◌, ap, arith, false, inl, inr, subst, sym}
use Rattle.std.proofs.lemmas.Bool.{cases_Bool}
use Rattle.builder_store.proofs.Taking.{if_err_two, over_fails}
use Rattle.sqlite.specs.Held.{state}
use Rattle.sqlite_schema.specs.declared.schema.Schema.{Schema}
use Rattle.sqlite_trees.specs.View.{IsClean, IsShaped}
use Rattle.sqlite_trees.specs.declared.store.Shape.TheVariants as shape
use Rattle.sqlite_catalog.specs.Listing.{IsSound}
use Rattle.std.proofs.lemmas.Result.{IfErr-weaker, IfOk-weaker}
use Rattle.builder_store.proofs.Orders.{if_ok_three, tables_ordered}
use Rattle.builder_store.proofs.Settled.{open_if}
use Rattle.builder_store.proofs.adopting.take_over.Goals as goal

pub returns-clause-fresh : goal.returns-clause-fresh
returns-clause-fresh g c =
    let v = g.S.Store.view c.into_store-store.result in
    if_ok_three c.over.result _ _ _ _ (λ conn opens trees least clean.
    let early : IsClean v = omega (arith, least) in
    let whole : v.is_broken ≡ false = sym (c.is_broken.ensures early) ∙ c.if-is_broken.false in
    let was = opens clean in
    let same = trees clean in
    let sound : IsSound conn.schema v.trees = subst (IsSound conn.schema) same
    (was.1 was.0.is_open).0 in
    record {
      is_open = was.0.is_open;
      live = was.1;
      ordered = λ t h. subst (λ db. IsShaped shape.Table (db t.tree)) (sym same)
          (tables_ordered v conn.schema sound (g.met.S.Alter.listed c.into_store-store.result whole)
          (g.met.S.Store.ordered c.into_store-store.result whole) t h);
      committed = was.0.clean;
    })
    c.over.ensures.opens c.over.ensures.trees c.over.ensures.clean

pub returns-clause-same : goal.returns-clause-same
returns-clause-same g c =
    let v = g.S.Store.view c.into_store-store.result in
    if_ok_three c.over.result _ _ _ _ (λ conn opens trees least clean.
    let early : IsClean v = omega (arith, least) in
    let whole : v.is_broken ≡ false = sym (c.is_broken.ensures early) ∙ c.if-is_broken.false in
    let is_open = open_if v.is_open v.is_broken (g.met.S.Store.broken_if_shut
    c.into_store-store.result) whole in
    ap (λ d. d.trees) (sym (opens clean).0.clean) ∙ trees clean ∙
    (c.into_store-store.ensures.undone.undone is_open).0)
    c.over.ensures.opens c.over.ensures.trees c.over.ensures.clean

pub returns-clause-crash : goal.returns-clause-crash
returns-clause-crash g c =
    let v = g.S.Store.view c.into_store-store.result in
    if_ok_three c.over.result _ _ _ _ (λ conn opens trees least clean db may.
    let early : IsClean v = omega (arith, least) in
    let whole : v.is_broken ≡ false = sym (c.is_broken.ensures early) ∙ c.if-is_broken.false in
    let is_open = open_if v.is_open v.is_broken (g.met.S.Store.broken_if_shut
    c.into_store-store.result) whole in
    let was = opens clean in
    let undone = c.into_store-store.ensures.undone in
    let same = ap (λ d. d.trees) (sym was.0.clean) ∙ trees clean ∙ (undone.undone is_open).0 in
    subst (λ t. g.S.Store.recovers c.args.conn.store t) (sym
    (g.met.S.Store.settled conn.store db was.0.is_open may ∙ same))
    (g.met.S.Store.stays c.args.conn.store ((undone.kept early).was_open is_open)))
    c.over.ensures.opens c.over.ensures.trees c.over.ensures.clean

pub over-requires : goal.over-requires
over-requires g c = λ early.
    let v = g.S.Store.view c.into_store-store.result in
    let whole : v.is_broken ≡ false = sym (c.is_broken.ensures early) ∙ c.if-is_broken.false in
    let is_open = open_if v.is_open v.is_broken (g.met.S.Store.broken_if_shut
    c.into_store-store.result) whole in
    let undone = c.into_store-store.ensures.undone in
    record {
      sound = whole;
      numbered = c.into_store-store.ensures.numbered early;
      clean = (undone.undone is_open).0 ∙ sym ((undone.kept early).committed is_open);
      unmarked = (undone.kept early).marks is_open;
    }

pub returns-clause-mode : goal.returns-clause-mode
returns-clause-mode g c = IfOk-weaker c.over.result _ _ (λ conn new. new.autocommit)
    c.over.ensures.fresh

pub returns-clause-clean : goal.returns-clause-clean
returns-clause-clean g c = IfOk-weaker c.over.result _ _
    (λ conn least. omega (arith, least, c.into_store-store.ensures.quiet.clean))
    c.over.ensures.clean

pub returns-clause-left : goal.returns-clause-left
returns-clause-left g c = IfErr-weaker c.over.result _ _ (λ e quiet db may.
    c.into_store-store.ensures.quiet.outcomes db (quiet.outcomes db may))
    c.over.ensures.unharmed

pub returns-then-is_broken-clause-left : goal.returns-then-is_broken-clause-left
returns-then-is_broken-clause-left g c = λ db may.
    c.into_store-store.ensures.quiet.outcomes db may

pub returns-then-is_broken-clause-cause : goal.returns-then-is_broken-clause-cause
returns-then-is_broken-clause-cause g c = λ clean.
    let undone = c.into_store-store.ensures.undone in
    let quiet = c.into_store-store.ensures.quiet in
    let broken = sym (c.is_broken.ensures clean) ∙ c.if-is_broken.true in
    inr (
      tt,
      elim (cases_Bool (g.S.Store.view c.args.conn.store).is_open) [
        | inl was ↦ elim (quiet.closes clean was) [
          | inl still ↦ absurd (let a = (undone.undone still).1 in let b = broken in cc)
          | inr met ↦ inl met
        ]
        | inr shut ↦ inr shut
      ],
    )

pub returns-clause-cause : goal.returns-clause-cause
returns-clause-cause g c = if_err_two c.over.result _ _ _ (λ e harm failed clean.
    let v = g.S.Store.view c.into_store-store.result in
    let undone = c.into_store-store.ensures.undone in
    let quiet = c.into_store-store.ensures.quiet in
    let early : IsClean v = omega (arith, harm.clean, clean) in
    let whole : v.is_broken ≡ false = sym (c.is_broken.ensures early) ∙ c.if-is_broken.false in
    let is_open = open_if v.is_open v.is_broken (g.met.S.Store.broken_if_shut
    c.into_store-store.result) whole in
    let sound = c.into_store-store.ensures.sound early v.committed
    (g.met.S.Store.stays c.into_store-store.result is_open) in
    let same : v.trees ≡ v.committed = (undone.undone is_open).0 ∙ sym
    ((undone.kept early).committed is_open) in
    over_fails (state g.S.Store c.args.conn) v.trees _ _ e.0 quiet.counts (subst
    (λ t. (schema : Schema) × IsSound schema t) (sym same) sound) (failed clean))
    c.over.ensures.unharmed c.over.ensures.err
