-- A page of the requests that a store shows is one of the content for which its tables stand.
use Rattle.std.proofs.Common.{◌∙◌, ap, subst, List, ℕ, ℤ}
use Rattle.std.specs.FinMap.{entries}
use Rattle.sqlite.specs.Effect.{Database}
use Rattle.sqlite.specs.State.{State}
use Rattle.store_model.specs.Contents.{Contents}
use Rattle.store_model.specs.Entries.{NameNumber, Request}
use Rattle.store_model.specs.Pages.{IsPage}
use Rattle.store_tables.specs.Contents.{contents_of}
use Rattle.store_rows.specs.Stands.{RingContent, contents_for}
use Rattle.builder_store.specs.Opening.{Stands}
use Rattle.builder_store.specs.Inner.Tables.{IsSettledState}

pub page_of_content : (s : State) (content : RingContent) (place : ℤ) (most : ℕ)
    (shown : List (NameNumber × Request)) → IsSettledState s → Stands s.committed.trees content
    → IsPage place most (entries (contents_of s.now.trees).requests) shown
    → IsPage place most (entries (contents_for content).requests) shown
page_of_content s content place most shown settled stands page =
    subst (λ (c : Contents). IsPage place most (entries c.requests) shown)
    (ap (λ (d : Database). contents_of d.trees) settled.committed ∙ stands.contents) page
