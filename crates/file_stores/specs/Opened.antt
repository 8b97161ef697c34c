-- The store in a file as programs open it, and as they make it.
use Rattle.std.specs.Prelude.{◌≡◌, ℕ}
use Rattle.ring_words.specs.Limits.{most_numbers}
use Rattle.sqlite_wal.specs.Recovery.{Image}
use Rattle.builder_store.specs.Opening.{IsOpenedFrom}
use Rattle.file_stores.specs.declared.stores.StoreFiles.{StoreFiles}
use Rattle.store_rows.specs.Stands.{RingContent}
use Rattle.ring_book.specs.Book.{Keeping}

-- how often a store in files was opened or made, or was to be
abbrev pub openings_of : {S F : Type 0} → StoreFiles S F → ℕ
openings_of stores = stores.openings

-- A keeper over files begins with the content for which the files stood as they were opened, if
-- their disk returned what was written, and keeps 100,000 requests. Its store has not failed.
pub record IsKept {K : Type 0} (g : Keeping K) (image : Image) (keeper : K) : Type 0 where
  pub limit : g.limit keeper ≡ most_numbers
  pub faults : g.fault_count keeper ≡ 0
  pub found : g.sound keeper → IsOpenedFrom image (g.content keeper)

-- A keeper over files that were made has this content, if their disk returned what was written, and
-- keeps 100,000 requests. Its store has not failed.
pub record IsMade {K : Type 0} (g : Keeping K) (content : RingContent) (keeper : K) : Type 0 where
  pub limit : g.limit keeper ≡ most_numbers
  pub faults : g.fault_count keeper ≡ 0
  pub is : g.sound keeper → g.content keeper ≡ content
