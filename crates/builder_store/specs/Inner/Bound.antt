-- Which keys the books have for which tables stand.
use Rattle.std.specs.Coded.{Coded-set, coded_option, Π_prop}
use Rattle.std.specs.Prelude.{List}
use Rattle.sqlite_trees.specs.Tree.{Trees}
use Rattle.store_rows.specs.Callers.{Bounds, UsedNumbers}
use Rattle.store_rows.specs.Stands.{DecidedRequest, RingContent}
use Rattle.builder_store.specs.Inner.Codes.{entry_code}
use Rattle.builder_store.specs.Opening.{Stands}

-- No book for which the tables in these trees stand has a key that is beyond what callers have used.
abbrev pub BoundsIn : UsedNumbers → Trees → Type 0
BoundsIn used db = (content : RingContent) → Stands db content → Bounds used content.book

pub bounds_prop : (used : UsedNumbers) (book : List DecidedRequest) → IsProp (Bounds used book)
bounds_prop used book = Π_prop (λ key. Π_prop (λ beyond. Coded-set (coded_option entry_code) _ _))

pub known_prop : (used : UsedNumbers) (db : Trees) (Clean : Type 0)
    → IsProp (Clean → BoundsIn used db)
known_prop used db Clean = Π_prop (λ clean. Π_prop (λ content. Π_prop (λ stands.
    bounds_prop used content.book)))
