-- What stands for a content once it gained a request.
use Rattle.std.proofs.Common.{◌≡◌, ◌∙◌, ◌∷◌, [], Bool, List, ap, false, pos}
use Rattle.std.proofs.Common.{refl}
use Rattle.std.proofs.Common.{subst, sym, true, ℕ}
use Rattle.std.specs.FinMap.{from_entries}
use Rattle.std.specs.Ordering.{int_cmp}
use Rattle.sqlite_trees.specs.Tree.{Trees}
use Rattle.store_model.specs.declared.change.RowChange.{RowChange}
use Rattle.store_model.specs.declared.change.RowChange.TheVariants.{DropDevice, PutRing}
use Rattle.store_model.specs.declared.change.RowChange.TheVariants.{AddDevice, PutPart, AddPart}
use Rattle.store_model.specs.declared.change.RowChange.TheVariants.{PutPublished}
use Rattle.store_model.specs.declared.rows.MetaRow.{MetaRow}
use Rattle.store_model.specs.declared.rows.RequestRow.{RequestRow}
use Rattle.store_model.specs.Changes.{changed_all, with_decided, with_kept}
use Rattle.store_model.specs.Contents.{Contents, device_key, device_of, part_of, published_of}
use Rattle.store_model.specs.Contents.{ring_of, with_device_row, with_part, with_published_row}
use Rattle.store_model.specs.Contents.{with_ring_row, without_device}
use Rattle.store_tables.specs.Contents.{contents_of}
use Rattle.store_rows.specs.Differences.{with_state}
use Rattle.store_rows.specs.RingRows.{NamedRings}
use Rattle.store_rows.specs.Stands.{DecidedRequest, IsHoldable, RingContent, contents_for, gained}
use Rattle.store_rows.specs.Stands.{meta_value}
use Rattle.builder_store.specs.Inner.Gains.{GainsIn, IsNextIn, LeadOn, written}
use Rattle.builder_store.specs.Opening.{Stands}
use Rattle.builder_store.specs.Standing.{StandsAlone}
use Rattle.builder_store.proofs.Finds.{OneContent, alone_from}
use Rattle.builder_store.proofs.Settled.{declared_in}
use Rattle.store_tables.specs.Store.{IsStoreWith}

-- no change of rows touches the row on the whole store
meta_stays : (changes : List RowChange) (c : Contents) → (changed_all c changes).meta ≡ c.meta
meta_stays [] c = refl
meta_stays (DropDevice key ∷ changes) c = meta_stays changes (without_device c (device_key key))
meta_stays (PutRing row ∷ changes) c = meta_stays changes (with_ring_row c (ring_of row).0
    (ring_of row).1)
meta_stays (AddDevice row ∷ changes) c = meta_stays changes (with_device_row c (device_of row).0
    (device_of row).1)
meta_stays (PutPart row ∷ changes) c = meta_stays changes (with_part c (part_of row).0
    (part_of row).1)
meta_stays (AddPart row ∷ changes) c = meta_stays changes (with_part c (part_of row).0
    (part_of row).1)
meta_stays (PutPublished row ∷ changes) c = meta_stays changes (with_published_row c
    (published_of row).0 (published_of row).1)

-- so what is made with that row is made without it where that row is there already
made_without : (x made : Contents) (request : RequestRow) (meta : MetaRow)
    → with_decided x request meta ≡ made → x.meta ≡ made.meta → with_kept x request ≡ made
made_without x made request meta is same = ap (λ (c : Contents). record c { meta = x.meta }) is
    ∙ ap (λ m. record made { meta = m }) same

-- as it is where the hour is the same
written_is : (b : Bool) (content : RingContent) (state : NamedRings) (entry : DecidedRequest)
    (changes : List RowChange) (request : RequestRow) (meta : MetaRow)
    → (b ≡ true → content.hour ≡ entry.hour)
    → with_decided (changed_all (contents_for content) changes) request meta ≡ contents_for
    (gained (with_state content state) entry)
    → written b (contents_for content) changes request meta ≡ contents_for
    (gained (with_state content state) entry)
written_is true content state entry changes request meta same is = made_without
    (changed_all (contents_for content) changes) (contents_for (gained (with_state content state)
    entry)) request meta is
    (meta_stays changes (contents_for content) ∙ ap (λ h. from_entries {R = int_cmp}
    ((pos 1, meta_value 2 h) ∷ [])) (same refl))
written_is false content state entry changes request meta same is = is

-- the trees of the transaction stand for what was planned
pub gained_alone : OneContent → (old db : Trees) (content more : RingContent)
    (b : Bool) (changes : List RowChange) (request : RequestRow) (meta : MetaRow)
    → Stands old content
    → written b (contents_for content) changes request meta ≡ contents_for more
    → IsHoldable more
    → IsStoreWith (written b (contents_of old) changes request meta) db
    → StandsAlone db more
gained_alone one old db content more b changes request meta was planned holdable is =
    alone_from one db more (record {
      declared = declared_in _ db is;
      holdable = holdable;
      contents = is.contents ∙ ap (λ x. written b x changes request meta) was.contents ∙ planned;
    })

-- so a commit gains the request
pub gains_in : OneContent → (old : Trees) (rings state : NamedRings) (count limit hour : ℕ)
    (entry : DecidedRequest) (b : Bool) → (b ≡ true → entry.hour ≡ hour)
    → (changes shown : List RowChange) (request : RequestRow)
    (meta : MetaRow) → shown ≡ changes
    → ((content : RingContent) → IsNextIn content rings state count entry
    → LeadOn content (gained (with_state content state) entry) changes request meta)
    → (db : Trees) → IsStoreWith (written b (contents_of old) shown request meta) db
    → GainsIn old rings count limit hour entry state db
gains_in one old rings state count limit hour entry b at changes shown request meta same planned db
    is content stands may =
    let made = planned content (record {
      holdable = stands.holdable;
      held = may.held;
      counted = may.counted;
      unknown = may.unknown;
      later = may.later;
      changed = may.changed;
      published = may.published;
    }) in
    gained_alone one old db content (gained (with_state content state) entry) b changes request meta
    stands (written_is b content state entry changes request meta (λ t. may.reached ∙ sym (at t))
    made.stands) made.holdable
    (subst (λ x. IsStoreWith (written b (contents_of old) x request meta) db) same is)
