-- What the calls within a transaction do.
use Rattle.std.specs.Prelude.{◌≡◌, ◌<◌, ℕ, IfOk, Result}
use Rattle.sqlite.specs.State.{HasCleanDisk, State}
use Rattle.sqlite.specs.declared.error.Error.{Error}
use Rattle.store_model.specs.Contents.{Contents}
use Rattle.store_tables.specs.Contents.{contents_of}
use Rattle.store_tables.specs.Store.{Becomes, Reaches}

-- A call within a transaction that makes this change to the contents.
abbrev pub Writes : State → State → {A : Type 0} → Result A Error → (Contents → Contents) → Type 0
Writes old new result change = Reaches old new result (change (contents_of old.now.trees))

-- A call that makes this change where it tells of a row that it wrote over, and else none.
abbrev pub WritesOver : State → State → Result ℕ Error → (Contents → Contents) → Type 0
WritesOver old new result change = HasCleanDisk new → IfOk result (λ count.
    (count ≡ 0 → Becomes new.now (contents_of old.now.trees))
    × (0 < count → Becomes new.now (change (contents_of old.now.trees))))
