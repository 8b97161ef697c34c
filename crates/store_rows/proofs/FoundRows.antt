-- What the rows of a store that is opened stand for.
use Rattle.std.proofs.Common.{◌≡◌, ℕ, ◌==◌, pos, Bool, true, false, cond, List, [], ◌∷◌, map}
use Rattle.std.proofs.Common.{length, Option, Some, None, refl, sym, ap, ◌∙◌}
use Rattle.std.specs.Prelude.{MatchOption}
use Rattle.std.specs.FinMap.{empty, insert, from_entries, int_cmp-IsAntisymmetric}
use Rattle.std.specs.Cmp.{int_cmp_total}
use Rattle.std.proofs.Common.{arith, Vec}
use Rattle.std.specs.declared.alloc.Global.{Global}
use Rattle.std.proofs.lemmas.Bool.Decides.{Decides-eqb}
use Rattle.store_model.specs.Entries.{name_number_cmp}
use Rattle.store_model.specs.Contents.{Contents, meta_of, part_of}
use Rattle.store_model.specs.Changes.{prepared}
use Rattle.store_model.specs.declared.change.RowChange.{RowChange}
use Rattle.store_model.specs.declared.rows.PartRow.{PartRow}
use Rattle.store_model.proofs.Keys.{name_total, name_exact, name_number_total, name_number_exact}
use Rattle.store_model.proofs.Keys.{seat_total, seat_exact}
use Rattle.store_rows.specs.RingRows.{NamedRings, part_entries}
use Rattle.store_rows.specs.Stands.{AreRings, DecidedRequest, RingContent, contents_for}
use Rattle.store_rows.specs.Stands.{first_contents_for, meta_value, request_entries}
use Rattle.store_rows.specs.Differences.{is_same_part}
use Rattle.store_rows.specs.Judging.{AreRowsOf, meta_now}
use Rattle.store_rows.specs.Inner.Written.{part_change}
use Rattle.store_rows.specs.Inner.Sayings.{SayRings, contents_under}
use Rattle.store_rows.specs.declared.judging.StoreRows.{StoreRows}
use Rattle.store_rows.proofs.Maps.{made_of, put_again}
use Rattle.store_rows.proofs.Ordered.{parts_sorted}
use Rattle.store_rows.proofs.Steps.{lacking_nothing}
use Rattle.store_rows.proofs.Sameness.{part_itself}
use Rattle.store_rows.proofs.Applied.{put_all, parts_are, differences_make}
use Rattle.store_rows.proofs.Changing.{part_one}

pub empty_of : {X : Type 0} (xs : List X) (n : ℕ) → n ≡ length xs → (n == 0) ≡ true → xs ≡ []
empty_of [] n is h = refl
empty_of (x ∷ xs) n is h = let none : n ≡ 0 = (Decides-eqb n 0).0 h in absurd (omega arith)

module _ (is_first : Bool) (rows : StoreRows) (rings : NamedRings) (hour : ℕ)
    (book : List DecidedRequest) (c : Contents)
    (all : AreRowsOf rows c) (says : SayRings is_first rows rings)
    (meta : map meta_of rows.meta.items ≡ (pos 1, meta_value (cond is_first 1 2) hour) ∷ [])
    (requests : c.requests ≡ from_entries (request_entries book)) where
  abbrev content : RingContent
  content = record { state = rings; book = book; hour = hour }

  pub stands : c ≡ contents_under is_first content
  stands = λ i. record {
    meta = made_of int_cmp_total int_cmp-IsAntisymmetric c.meta _ (sym all.meta ∙ meta) i;
    rings = made_of name_total name_exact c.rings _ (sym all.rings ∙ says.rings_are) i;
    devices = made_of name_number_total name_number_exact c.devices _
        (sym all.devices ∙ says.devices) i;
    seats = made_of seat_total seat_exact c.seats _ (sym all.seats ∙ says.places.seats) i;
    moved = made_of name_number_total name_number_exact c.moved _
        (sym all.moved ∙ says.places.moved) i;
    published = made_of name_number_total name_number_exact c.published _
        (sym all.published ∙ says.published) i;
    requests = requests i;
    parts = made_of name_number_total name_number_exact c.parts _
        (sym all.parts ∙ says.places.parts) i;
  }

parts_filled : (rings : NamedRings) → AreRings rings → put_all (empty {R = name_number_cmp})
    (part_entries rings) ≡ from_entries (part_entries rings)
parts_filled rings held =
    ap (put_all (empty {R = name_number_cmp})) (sym (lacking_nothing name_number_cmp is_same_part
    (part_entries rings)))
    ∙ differences_make name_number_total name_number_exact is_same_part part_one part_itself []
    (part_entries rings) (parts_sorted rings held) (λ q none. refl)

-- the changes that write a row for each partition make a store of schema 1 one of schema 2
pub migrated : (held : RingContent) → AreRings held.state →
    (changes : List RowChange) (rs : List PartRow) → changes ≡ map (part_change (pos 0)) rs →
    map part_of rs ≡ part_entries held.state
    → prepared (first_contents_for held) changes (meta_now held.hour) ≡ contents_for held
migrated held proper changes rs are of =
    ap (λ cs. prepared (first_contents_for held) cs (meta_now held.hour)) are
    ∙ ap (λ (d : Contents). record d {
      meta = insert d.meta (pos 1) (meta_value 2 held.hour);
      seats = empty;
      moved = empty;
    }) (parts_are (pos 0) (first_contents_for held) rs)
    ∙ (λ i. record (contents_for held) {
      meta = put_again int_cmp_total int_cmp-IsAntisymmetric (pos 1) (meta_value 1 held.hour)
          (meta_value 2 held.hour) i;
      parts = (ap (put_all (empty {R = name_number_cmp})) of ∙ parts_filled held.state proper) i;
    })

abbrev Migrates : Bool → NamedRings → Option (Vec RowChange Global) → Type 0
Migrates is_first rings migration = MatchOption migration (is_first ≡ false)
    (λ changes. (is_first ≡ true) × ((rs : List PartRow) × (changes.items ≡ map (part_change (pos 0)) rs) ×
    (map part_of rs ≡ part_entries rings)))

pub found_in : (is_first : Bool) (held : RingContent) (c : Contents)
    (migration : Option (Vec RowChange Global)) → AreRings held.state →
    c ≡ contents_under is_first held → Migrates is_first held.state migration
    → MatchOption migration (c ≡ contents_for held) (λ changes. (c ≡ first_contents_for held) ×
    (prepared c changes.items (meta_now held.hour) ≡ contents_for held))
found_in is_first held c None proper are second = are ∙ ap (λ f. contents_under f held) second
found_in is_first held c (Some changes) proper are first =
    let one : c ≡ first_contents_for held = are ∙ ap (λ f. contents_under f held) first.0 in (
      one,
      ap (λ d. prepared d changes.items (meta_now held.hour)) one ∙ migrated held proper
          changes.items first.1.0 first.1.1 first.1.2,
    )
