-- When a content gains a request, and what then stands for it.
use Rattle.std.specs.Prelude.{◌≡◌, ◌<◌, ◌≤◌, ℕ, Bool, List, None, if◌then◌else◌, length}
use Rattle.sqlite_trees.specs.Tree.{Trees}
use Rattle.request_book.specs.Content.{entry_of}
use Rattle.store_model.specs.Changes.{changed_all, with_decided, with_kept}
use Rattle.store_model.specs.Contents.{Contents}
use Rattle.store_model.specs.declared.change.RowChange.{RowChange}
use Rattle.store_model.specs.declared.rows.MetaRow.{MetaRow}
use Rattle.store_model.specs.declared.rows.RequestRow.{RequestRow}
use Rattle.store_rows.specs.RingRows.{NamedRings}
use Rattle.store_rows.specs.Differences.{IsChangedAt, KeepsOwn, with_state}
use Rattle.store_rows.specs.Stands.{DecidedRequest, IsHoldable, RingContent, contents_for, gained}
use Rattle.builder_store.specs.Opening.{Stands}
use Rattle.builder_store.specs.Standing.{StandsAlone}

-- The content has these rings, so many requests, fewer than it may have, and this hour. The key of
-- the request is new, its hour is not before the content's, the ring of its command is the only one
-- that the new rings may have otherwise, and what they published are their own texts.
pub record MayGain (content : RingContent) (rings state : NamedRings) (count limit hour : ℕ)
    (entry : DecidedRequest) : Type 0 where
  pub held : content.state ≡ rings
  pub counted : length content.book ≡ count
  pub reached : content.hour ≡ hour
  pub room : count < limit
  pub unknown : entry_of entry.key content.book ≡ None
  pub later : content.hour ≤ entry.hour
  pub changed : IsChangedAt entry.command.ring rings state
  pub published : KeepsOwn rings state

-- The request is the next in a content that a store can hold, that has these rings and so many
-- requests: its key is new, its hour is not before the content's, the ring of its command is the only
-- one that the new rings may have otherwise, and what they published are their own texts.
pub record IsNextIn (content : RingContent) (rings state : NamedRings) (count : ℕ)
    (entry : DecidedRequest) : Type 0 where
  pub holdable : IsHoldable content
  pub held : content.state ≡ rings
  pub counted : length content.book ≡ count
  pub unknown : entry_of entry.key content.book ≡ None
  pub later : content.hour ≤ entry.hour
  pub changed : IsChangedAt entry.command.ring rings state
  pub published : KeepsOwn rings state

-- Written over what stands for the one content, the changes and the rows of a request make what
-- stands for the other, which a store can hold.
pub record LeadOn (before after : RingContent) (changes : List RowChange) (request : RequestRow)
    (meta : MetaRow) : Type 0 where
  pub holdable : IsHoldable after
  pub stands : with_decided (changed_all (contents_for before) changes) request meta
      ≡ contents_for after

-- If the old trees stand for a content that may gain the request, these stand for it with the
-- request and the new rings.
abbrev pub GainsIn : Trees → NamedRings → ℕ → ℕ → ℕ → DecidedRequest → NamedRings → Trees → Type 0
GainsIn old rings count limit hour entry state db = (content : RingContent) → Stands old content
    → MayGain content rings state count limit hour entry
    → StandsAlone db (gained (with_state content state) entry)

-- What the changes and the request make of the contents, with the row on the whole store unless its
-- hour is the same.
abbrev pub written : Bool → Contents → List RowChange → RequestRow → MetaRow → Contents
written is_same_hour c changes request meta =
    if is_same_hour then with_kept (changed_all c changes) request
    else with_decided (changed_all c changes) request meta
