-- Where the tables stand for a content, an opening finds it.
use Rattle.std.proofs.Common.{inl}
use Rattle.sqlite_trees.specs.Tree.{Trees}
use Rattle.store_tables.specs.Tables.{table_count}
use Rattle.store_rows.specs.Stands.{RingContent}
use Rattle.builder_store.specs.Opening.{IsOpenedAs, Stands}

pub stands_opens : (db : Trees) (content : RingContent) → Stands db content → IsOpenedAs db content
stands_opens db content is = (
  table_count,
  is.declared,
  record { holdable = is.holdable; stands = inl is.contents },
)
