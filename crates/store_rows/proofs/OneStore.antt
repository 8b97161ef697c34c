-- Tables stand for one content at most, once they say one list of rows of partitions.
use Rattle.std.proofs.Common.{◌≡◌, ◌∙◌, ap, sym, pos, Some, ◌∷◌, [], ℕ}
use Rattle.std.specs.FinMap.{entries, from_entries, get, get-from_entries}
use Rattle.std.specs.Cmp.{int_cmp_total}
use Rattle.std.specs.Ordering.{int_cmp}
use Rattle.std.proofs.lemmas.List.Elements.{recursion_from_All}
use Rattle.ring_words.specs.declared.command.Command.{Command}
use Rattle.ring_words.specs.declared.command.Reply.{Reply}
use Rattle.ring_messages.specs.Commands.{canonical, IsProperCommand}
use Rattle.ring_messages.specs.Replies.{reply_text, IsProperReply}
use Rattle.store_model.specs.Entries as rows
use Rattle.store_model.specs.Entries.{name_cmp, name_number_cmp}
use Rattle.store_model.proofs.Keys.{name_total, name_exact, name_number_total, name_number_exact}
use Rattle.store_rows.specs.RingRows.{device_entries, part_entries, published_entries, ring_entries}
use Rattle.store_rows.specs.Stands.{IsHoldable, IsNamedRing, RingContent, meta_value}
use Rattle.store_rows.specs.Stands.{request_entries}
use Rattle.store_rows.proofs.Maps.{entries_of}
use Rattle.store_rows.proofs.Ordered.{rings_sorted, up, devices_sorted, texts_sorted}
use Rattle.store_rows.proofs.OneRings.{one_rings}
use Rattle.store_rows.proofs.OneBook.{one_table}

module _ (one_text : (c d : Command) → IsProperCommand c → IsProperCommand d →
    canonical c ≡ canonical d → c ≡ d)
    (one_reply : (r s : Reply) → IsProperReply r → IsProperReply s → reply_text r ≡ reply_text s →
    r ≡ s) where
  -- contents of one schema with the same rows are the same
  pub one_store : (a b : RingContent) → IsHoldable a → IsHoldable b → (schema : ℕ)
      → from_entries {R = int_cmp} ((pos 1, meta_value schema a.hour) ∷ [])
      ≡ from_entries {R = int_cmp} ((pos 1, meta_value schema b.hour) ∷ [])
      → from_entries {R = name_cmp} (ring_entries a.state)
      ≡ from_entries {R = name_cmp} (ring_entries b.state)
      → from_entries {R = name_number_cmp} (device_entries a.state)
      ≡ from_entries {R = name_number_cmp} (device_entries b.state)
      → from_entries {R = name_number_cmp} (published_entries a.state)
      ≡ from_entries {R = name_number_cmp} (published_entries b.state)
      → from_entries {R = name_number_cmp} (request_entries a.book)
      ≡ from_entries {R = name_number_cmp} (request_entries b.book)
      → (ring_entries a.state ≡ ring_entries b.state
      → part_entries a.state ≡ part_entries b.state) → a ≡ b
  one_store a b p q schema same_meta same_rings same_devices same_texts same_requests parts =
      let s = a.state in
      let t = b.state in
      let rings = sym (entries_of name_total name_exact _ (rings_sorted s (up s p.rings)))
      ∙ ap entries same_rings
      ∙ entries_of name_total name_exact _ (rings_sorted t (up t q.rings)) in
      let devices = sym (entries_of name_number_total name_number_exact _
      (devices_sorted s p.rings)) ∙ ap entries same_devices
      ∙ entries_of name_number_total name_number_exact _ (devices_sorted t q.rings) in
      let texts = sym (entries_of name_number_total name_number_exact _ (texts_sorted s p.rings))
      ∙ ap entries same_texts
      ∙ entries_of name_number_total name_number_exact _ (texts_sorted t q.rings) in
      let state = one_rings s t (recursion_from_All IsNamedRing s p.rings.each)
      (recursion_from_All IsNamedRing t q.rings.each) (up s p.rings) (up t q.rings) rings devices
      texts (parts rings) in
      let book = one_table one_text one_reply a.book b.book p.book q.book same_requests in
      let metas : Some (meta_value schema a.hour) ≡ Some (meta_value schema b.hour) =
      sym (get-from_entries {R = int_cmp} int_cmp_total ((pos 1, meta_value schema a.hour) ∷ [])
      (pos 1)) ∙ ap (λ m. get m (pos 1)) same_meta
      ∙ get-from_entries {R = int_cmp} int_cmp_total ((pos 1, meta_value schema b.hour) ∷ [])
      (pos 1) in
      let meta : meta_value schema a.hour ≡ meta_value schema b.hour = cc in
      let hours : pos a.hour ≡ pos b.hour = ap (λ (m : rows.Meta). m.hour) meta in
      let hour : a.hour ≡ b.hour = cc in
      λ i. record { state = state i; book = book i; hour = hour i }
