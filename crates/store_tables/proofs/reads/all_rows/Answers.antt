use Rattle.std.proofs.Common.{◌<◌, ◌≤◌, ◌∙◌, ◌∷◌, [], ap, map, refl, rules, arith}
use Rattle.std.proofs.lemmas.List.{map-append}
use Rattle.std.proofs.lemmas.Result.{IfErr-weaker}
use Rattle.sqlite.specs.Held.{state}
use Rattle.sqlite.specs.State.{HasCleanDisk, Survives}
use Rattle.store_tables.specs.Failing.{FailsForCause}
use Rattle.store_tables.proofs.Failing.{hands_on, err_so, query_fails, query_reads, no_cause, read_as_text}
use Rattle.store_tables.proofs.Inside.{quiet_on}
use Rattle.store_tables.proofs.Reading.{listing_begins, listing_goes_on, listing_ends, listing_fails}
use Rattle.store_tables.proofs.Reading.{listing_gives, listing_kept, listing_none, listing_reads, reads_failed, reads_none}
use Rattle.store_tables.proofs.TextRows.{hands_error}
use Rattle.store_tables.proofs.reads.all_rows.Goals as goal

pub returns-in_err-shown-clause-reads : goal.returns-in_err-shown-clause-reads
returns-in_err-shown-clause-reads g c =
    let old = state g.S.Store c.args.conn.now in
    let new = state g.S.Store c.query.follows.lender-at-none in
    let after : g.T.Listed.before < c.args.made = rw c.tables_before.ensures.before at
    c.if-made-tables_before.false in
    reads_none _ old new (listing_kept c.args.made c.query-sql.result.now old new c.requires
    (c.query-sql.ensures c.args.made after).plain (search rules)) c.from_residual.result _ c.in_err-shown.field-0.0 (search rules)

pub returns-in_err-shown-clause-cause : goal.returns-in_err-shown-clause-cause
returns-in_err-shown-clause-cause g c =
    let old = state g.S.Store c.args.conn.now in
    let new = state g.S.Store c.query.follows.lender-at-none in
    hands_on old new c.query.result c.from_residual.result c.in_err-shown.field-0.0
    (search rules) (search rules)
    (query_fails c.query-sql.result.now [] old new c.query.result (search rules))

pub returns-in_err-shown-clause-no_text : goal.returns-in_err-shown-clause-no_text
returns-in_err-shown-clause-no_text g c = λ clean.
    let old = state g.S.Store c.args.conn.now in
    let new = state g.S.Store c.query.follows.lender-at-none in
    hands_error _ c.query.result c.from_residual.result c.in_err-shown.field-0.0 (search rules)
    (search rules) (IfErr-weaker c.query.result _ _ (λ e never told. read_as_text e never told)
    (query_reads c.query-sql.result.now [] old new c.query.result (search rules) clean))

pub rows-init : goal.rows-init
rows-init g c =
    let made = c.in_ok-shown.ensures in
    let begun = c.in_ok-shown.shown.conn.now in
    let after : g.T.Listed.before < c.args.made = rw c.tables_before.ensures.before at
    c.if-made-tables_before.false in
    let lists = c.query-sql.ensures c.args.made after in
    record {
      same_reference = refl;
      mode = made.mode;
      survives = listing_kept c.args.made c.query-sql.result.now (state g.S.Store c.args.conn.now)
          (state g.S.Store begun) c.requires lists.plain made.survives;
      listed = λ clean. rw c.new-rows.ensures.items (listing_begins g.S.Store c.args.made
          g.T.Listed.layout g.T.Listed.listed c.args.conn.now c.query-sql.result.now lists begun
          (c.requires (omega (arith, made.survives.clean, clean))).begun (made.begun clean));
    }

pub returns-then-made-tables_before-clause-reads :
    goal.returns-then-made-tables_before-clause-reads
returns-then-made-tables_before-clause-reads g c =
    let s = state g.S.Store c.args.conn.now in
    let low : c.args.made ≤ g.T.Listed.before = rw c.tables_before.ensures.before at
    c.if-made-tables_before.true in
    listing_none _ s c.args.made (λ rows. map g.T.Listed.entry rows.items) g.T.Listed.listed
    c.new-rows.result c.requires (ap (map g.T.Listed.entry) c.new-rows.ensures.items)
    (c.tables_before.ensures.missing c.args.made s.now.trees low)

pub returns-in_err-advance-clause-cause : goal.returns-in_err-advance-clause-cause
returns-in_err-advance-clause-cause g c =
    let now = c.rows.shown.conn.now in
    let new = c.advance.new.self.conn.now in
    let it : FailsForCause (state g.S.Store c.args.conn.now) (state g.S.Store new)
    c.from_residual-in_err-advance.result =
    hands_on (state g.S.Store c.args.conn.now) (state g.S.Store new) c.advance.result c.from_residual-in_err-advance.result c.in_err-advance.field-0.0
    (search rules) (search rules)
    (listing_fails g.S.Store c.args.made g.T.Listed.layout g.T.Listed.listed
    c.args.conn.now c.requires now new c.rows.invariant.survives c.advance.ensures.survives
    (map g.T.Listed.entry c.rows.rows.items) c.rows.invariant.listed c.advance.result
    c.advance.ensures.err) in
    search rules

pub returns-in_err-advance-clause-no_text : goal.returns-in_err-advance-clause-no_text
returns-in_err-advance-clause-no_text g c = λ clean.
    let now = c.rows.shown.conn.now in
    let new = c.advance.new.self.conn.now in
    let late : HasCleanDisk (state g.S.Store new) = search rules in
    hands_error _ c.advance.result c.from_residual-in_err-advance.result
    c.in_err-advance.field-0.0 (search rules)
    (search rules) (IfErr-weaker c.advance.result _ _ (λ e never told. read_as_text e never told)
    (listing_reads g.S.Store c.args.made g.T.Listed.layout g.T.Listed.listed
    c.args.conn.now c.requires now new c.rows.invariant.survives c.advance.ensures.survives
    (map g.T.Listed.entry c.rows.rows.items) c.rows.invariant.listed c.advance.result
    c.advance.ensures.err late))

pub returns-in_default-clause-reads : goal.returns-in_default-clause-reads
returns-in_default-clause-reads g c =
    let now = c.rows.shown.conn.now in
    let new = c.advance.new.self.conn.now in
    let it = listing_ends g.S.Store c.args.made g.T.Listed.layout g.T.Listed.listed c.args.conn.now c.requires now new c.rows.invariant.survives
    c.advance.ensures.survives
    (map g.T.Listed.entry c.rows.rows.items) c.rows.invariant.listed
    (λ rows. map g.T.Listed.entry rows.items) c.rows.rows refl (search rules) (search rules) in
    search rules

pub returns-in_err-read-clause-no_text : goal.returns-in_err-read-clause-no_text
returns-in_err-read-clause-no_text g c = λ clean.
    let now = c.rows.shown.conn.now in
    let new = c.advance.new.self.conn.now in
    let late : HasCleanDisk (state g.S.Store new) = search rules in
    hands_error _ c.read.result c.from_residual-in_err-read.result c.in_err-read.field-0.0
    (search rules) (search rules) (IfErr-weaker c.read.result _ _ (λ e none told all. none told
    (listing_gives g.S.Store c.args.made g.T.Listed.layout g.T.Listed.listed
    c.args.conn.now c.requires now new c.rows.invariant.survives c.advance.ensures.survives
    (map g.T.Listed.entry c.rows.rows.items) c.rows.invariant.listed g.T.Listed.are_texts
    c.in-Some.row.now (search rules) late (search rules) all)) c.read.ensures.no_text)

pub rows-preserved : goal.rows-preserved
rows-preserved g c =
    let now = c.rows.shown.conn.now in
    let new = c.advance.new.self.conn.now in
    let was = c.rows.invariant in
    let did = c.advance.ensures in
    record {
      same_reference = search rules;
      mode = search rules;
      survives = search rules;
      listed = λ clean. listing_goes_on g.S.Store c.args.made g.T.Listed.layout
          g.T.Listed.listed c.args.conn.now now new (map g.T.Listed.entry c.rows.rows.items)
          (map g.T.Listed.entry c.push.new.self.items) c.in-Some.row.now
          (g.T.Listed.entry c.in_ok-read.field-0)
          (was.listed (omega (arith, did.survives.clean, clean))) (search rules) (search rules)
          (search rules) (ap (map g.T.Listed.entry) c.in_ok-push.ensures.items
          ∙ map-append g.T.Listed.entry c.rows.rows.items (c.in_ok-read.field-0 ∷ []));
    }

pub returns-in_err-advance-clause-reads : goal.returns-in_err-advance-clause-reads
returns-in_err-advance-clause-reads g c =
    let old = state g.S.Store c.args.conn.now in
    let now = state g.S.Store c.rows.shown.conn.now in
    let new = state g.S.Store c.advance.new.self.conn.now in
    let quiet : Survives old new (λ _. ⊥) = quiet_on old now new c.rows.invariant.survives
    c.advance.ensures.survives in
    reads_failed _ _ _ (search rules) c.from_residual-in_err-advance.result _
    c.from_residual-in_err-advance.ensures.0

pub returns-in_err-read-clause-reads : goal.returns-in_err-read-clause-reads
returns-in_err-read-clause-reads g c =
    let old = state g.S.Store c.args.conn.now in
    let now = state g.S.Store c.rows.shown.conn.now in
    let new = state g.S.Store c.advance.new.self.conn.now in
    let quiet : Survives old new (λ _. ⊥) = quiet_on old now new c.rows.invariant.survives
    c.advance.ensures.survives in
    reads_failed _ _ _ (search rules) c.from_residual-in_err-read.result _
    c.from_residual-in_err-read.ensures.0

pub returns-in_err-read-clause-cause : goal.returns-in_err-read-clause-cause
returns-in_err-read-clause-cause g c = λ clean.
    let result = c.from_residual-in_err-read.result in
    no_cause _ result (hands_error _ c.read.result result c.in_err-read.field-0.0 c.in_err-read.was
    (search rules) c.read.ensures.unfailed)

pub returns-in_err-push-clause-reads : goal.returns-in_err-push-clause-reads
returns-in_err-push-clause-reads g c =
    let old = state g.S.Store c.args.conn.now in
    let now = state g.S.Store c.rows.shown.conn.now in
    let new = state g.S.Store c.advance.new.self.conn.now in
    let quiet : Survives old new (λ _. ⊥) = quiet_on old now new c.rows.invariant.survives
    c.advance.ensures.survives in
    reads_failed _ _ _ (search rules) c.from_residual-in_err-push.result _
    c.from_residual-in_err-push.ensures.0

pub returns-in_err-push-clause-cause : goal.returns-in_err-push-clause-cause
returns-in_err-push-clause-cause g c = λ clean.
    let result = c.from_residual-in_err-push.result in
    no_cause _ result (IfErr-weaker result _ _ (λ e is. rw is refl)
    (err_so result _ c.from_residual-in_err-push.ensures.1))

pub returns-in_err-push-clause-no_text : goal.returns-in_err-push-clause-no_text
returns-in_err-push-clause-no_text g c = λ clean.
    let result = c.from_residual-in_err-push.result in
    IfErr-weaker result _ _ (λ e is. read_as_text e (rw is refl))
    (err_so result _ c.from_residual-in_err-push.ensures.1)

pub returns-clause-reads : goal.returns-clause-reads
returns-clause-reads g c = reads_failed _ _ _ (search rules) _ _ refl
