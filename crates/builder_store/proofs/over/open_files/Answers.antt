use Rattle.std.proofs.Common.{◌∙◌, Bool, List, ap, ap₂, cond, subst, sym, ℕ}
use Rattle.sqlite_disk.specs.Events.{Event, replay}
use Rattle.sqlite_wal.specs.Recovery.{Image}
use Rattle.builder_store.specs.Left.{AreUnopened, IfUnconnected, IsConnected, IsUnconnected}
use Rattle.builder_store.proofs.Rests.{none_connected, none_left, rest_left, told_none}
use Rattle.builder_store.proofs.Rests.{told_unopened}
use Rattle.sqlite_trees.specs.View.{IsShaped}
use Rattle.sqlite_trees.specs.declared.store.Shape.TheVariants as shape
use Rattle.sqlite.specs.Effect.{Database}
use Rattle.sqlite.specs.Files.{file_state}
use Rattle.sqlite_catalog.specs.Listing.{IsSound}
use Rattle.sqlite_wal.specs.Files.{image_at}
use Rattle.builder_store.proofs.Rising.{tables_rise}
use Rattle.builder_store.proofs.over.open_files.Goals as goal

abbrev image : List ℕ → List ℕ → Image
image log db = record { log = log; db = db }

abbrev seen : List ℕ → List ℕ → Bool → List Event → List ℕ
seen log db is_log history = (replay (cond is_log log db) history).seen

pub returns-in-Err-clause-unopened : goal.returns-in-Err-clause-unopened
returns-in-Err-clause-unopened g c = λ none. subst AreUnopened (sym c.file_fault.ensures.which)
    (told_unopened c.in-Err.error (c.in-Err.ensures.unopened (none_left c.in-Err.left
    (sym c.unconnected.ensures ∙ none))))

pub returns-in-Err-clause-unmade : goal.returns-in-Err-clause-unmade
returns-in-Err-clause-unmade g c = (
  c.file_fault.ensures.unconnected,
  λ is. none_connected c.in-Err.left (subst IsConnected c.unconnected.ensures is),
)

pub returns-in-Err-clause-left : goal.returns-in-Err-clause-left
returns-in-Err-clause-left g c =
    subst (λ o. IfUnconnected o (IsUnconnected (image_at g.S.Start) c.file_fault.result))
    (sym c.unconnected.ensures) (rest_left c.in-Err.left _ _ (λ rest it.
    let held = ap₂ image (ap₂ (seen g.S.Start.log g.S.Start.db) it.1.0 it.1.1)
    (ap₂ (seen g.S.Start.log g.S.Start.db) it.2.0 it.2.1) in
    record {
      files = it.0;
      held = held;
      error = c.in-Err.error;
      told = c.file_fault.ensures.which;
      cause = λ clean. (it.3 clean).0;
      none = λ clean told. told_none it.0 rest c.in-Err.error (image_at g.S.Start) held
          (it.3 clean).0 (sym c.file_fault.ensures.which ∙ told);
      crash = λ clean. (it.3 clean).1;
    }) c.in-Err.ensures.cause)

pub returns-in-Ok-clause-made : goal.returns-in-Ok-clause-made
returns-in-Ok-clause-made g c =
    let s = file_state c.in-Ok.conn in
    let found = c.in-Ok.ensures.found in
    record {
      made = record {
        mode = c.in-Ok.ensures.fresh.autocommit;
        fresh = λ clean.
            let was = c.in-Ok.ensures.opened clean in
            let same = ap (λ (d : Database). d.trees) was.0.clean in
            record {
              is_open = was.0.is_open;
              live = was.1;
              ordered = λ t h. subst (λ db. IsShaped shape.Table (db t.tree)) (sym same)
                  (tables_rise (image_at g.S.Start) s.now.schema s.committed.trees
                  (found clean).reads (subst (λ (d : Database). IsSound s.now.schema d.trees)
                  was.0.clean (was.1 was.0.is_open).0) t h);
              committed = was.0.clean;
            };
      };
      found = found;
    }
