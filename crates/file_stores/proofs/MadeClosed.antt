-- Stores that are made and closed.
use Rattle.std.proofs.Common.{Err, IfErr, Ok, OnOk, Result, inr}
use Rattle.sqlite.specs.declared.error.Error.{Error}
use Rattle.sqlite_disk.specs.declared.Disk as disk
use Rattle.sqlite_disk.specs.declared.Files.{Files}
use Rattle.sqlite_store.specs.declared.store.FileStore.{FileStore}
use Rattle.sqlite_wal.specs.Recovery.{Image}
use Rattle.ring_book.specs.Book.{Keeping}
use Rattle.store_rows.specs.Stands.{RingContent}
use Rattle.file_stores.specs.Closed.{EndsIn}
use Rattle.file_stores.specs.Made.{IsMadeInFiles, IsNotInFiles}
use Rattle.file_stores.specs.Opened.{IsMade}
use Rattle.program_stores.specs.Stores.{Closing}

module _ {K D : Type 0} (g : Keeping K) {d : disk.Ghosts D} (store : K → FileStore D d)
    (content : RingContent) (keeper : K) (is : IsMade g content keeper) where
  pub closed : (answer : Closing) (left : Result (Files D) (Error × FileStore D d))
      → EndsIn g store keeper answer left → OnOk answer (IsMadeInFiles g store content)
  closed (Ok tt) (Ok files) ended = record { keeper = keeper; made = is; files = files; ends = ended }
  closed (Ok tt) (Err rest) ended = absurd ended.closed
  closed (Err why) left ended = tt

  pub unclosed : (image : Image) (answer : Closing)
      (left : Result (Files D) (Error × FileStore D d)) → EndsIn g store keeper answer left
      → IfErr answer (IsNotInFiles g store content image)
  unclosed image (Ok tt) left ended = tt
  unclosed image (Err why) (Err rest) ended =
      inr (record { keeper = keeper; made = is; rest = rest; ends = ended })
  unclosed image (Err why) (Ok files) ended = absurd ended.closed
