-- What callers bound.
use Rattle.std.proofs.Common.{◌≡◌, List, None, subst, sym}
use Rattle.std.proofs.Math.Logic.{∥∥₁_elim}
use Rattle.std.specs.Prelude.{Err, Ok, OnOk, Result}
use Rattle.ring_words.specs.declared.command.Command.{Command}
use Rattle.ring_words.specs.declared.command.Reply.{Reply}
use Rattle.ring_words.specs.declared.request.Key.{Key}
use Rattle.request_book.specs.Content.{entry_of}
use Rattle.request_book.specs.Keeper.{IsFound}
use Rattle.request_book.specs.declared.keeper.Found.TheVariants.{New}
use Rattle.sqlite_trees.specs.Tree.{Trees}
use Rattle.store_rows.specs.Callers.{Bounds, UsedNumbers}
use Rattle.store_rows.specs.Stands.{DecidedRequest, RingContent}
use Rattle.builder_store.specs.Inner.Bound.{BoundsIn, bounds_prop}
use Rattle.builder_store.specs.Inner.Finding.{stands_opens}
use Rattle.builder_store.specs.Standing.{StandsAlone}

-- who bound the one book for which trees stand bound each
pub bounds_alone : (db : Trees) (content : RingContent) (used : UsedNumbers)
    → StandsAlone db content → Bounds used content.book → BoundsIn used db
bounds_alone db content used alone bounds other stands = subst (λ (c : RingContent). Bounds used
    c.book) (sym (alone.1 other (stands_opens db other stands))) bounds

-- the same where it is only known that the trees stand for it
pub bounds_known : (db : Trees) (content : RingContent) (used : UsedNumbers)
    → ∥ StandsAlone db content ∥₁ → Bounds used content.book → BoundsIn used db
bounds_known db content used alone bounds other stands = ∥∥₁_elim alone
    (bounds_prop used other.book) (λ h. bounds_alone db content used h bounds other stands)

-- and the other way round
pub bounds_of : (db : Trees) (content : RingContent) (used : UsedNumbers)
    → ∥ StandsAlone db content ∥₁ → BoundsIn used db → Bounds used content.book
bounds_of db content used alone known = ∥∥₁_elim alone (bounds_prop used content.book)
    (λ h. known content h.0)

-- what is so whatever the answer
pub on_ok_always : {A E : Type 0} (answer : Result A E) (P : Type 0) → P → OnOk answer P
on_ok_always (Ok x) P p = p
on_ok_always (Err e) P p = tt

-- a key without an entry is found as new
pub found_new : (found : List DecidedRequest) (key : Key) (command : Command)
    → entry_of key found ≡ None → IsFound {R = Reply} (entry_of key found) command New
found_new found key command none = subst (λ o. IsFound {R = Reply} o command New) (sym none) tt
