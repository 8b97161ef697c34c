-- Rows that are put into a ring one after another, up to the first that is refused.
use Rattle.std.proofs.Common.{◌≡◌, ℕ, ◌+◌, ◌<◌, ◌≤◌, Bool, true, false, List, [], ◌∷◌}
use Rattle.std.proofs.Common.{length, take, drop, Option, None, refl, sym, ap, ◌∙◌}
use Rattle.std.proofs.Common.{arith}
use Rattle.std.specs.Prelude.{find}
use Rattle.std.specs.List.{list_any}
use Rattle.std.proofs.lemmas.Bool.{leb-false, or_parts}
use Rattle.ring_model.specs.Import.{after_rows}
use Rattle.ring_model.specs.Ring.{RingRecord}
use Rattle.ring_words.specs.Rows.{has_place}
use Rattle.ring_words.specs.declared.device.Device.{Device}
use Rattle.ring_words.specs.declared.device.Row.{Row}
use Rattle.ring_words.specs.declared.command.RowCause.{RowCause}
use Rattle.ring_words.specs.declared.request.Limits.{Limits}
use Rattle.builder.specs.Step.{Cause, RowTrouble, first_trouble, of_more, of_rows}
use Rattle.builder.specs.Step.{row_refusal, troubles_at}

abbrev pub stood : List Cause → Option Cause
stood causes = find (λ cause. cause.stands) causes

-- ---- one row

find_none : (p : Device → Bool) (devices : List Device) → list_any p devices ≡ false →
    find p devices ≡ None
find_none p [] e = refl
find_none p (d ∷ ds) e = let parts = or_parts (p d) (list_any p ds) e in
    rw (parts.0, find_none p ds parts.1) refl

abbrev trouble : RowCause → Bool → RowTrouble
trouble cause stands = record { cause = cause; stands = stands }

neither : (x y : RowCause) (a b : Bool) → first_trouble (trouble x a ∷ trouble y b ∷ []) ≡ None →
    (a ≡ false) × (b ≡ false)
neither x y true b e = cc
neither x y false true e = cc
neither x y false false e = (refl, refl)

-- where no cause stands against a row that finds no device, one more device fits
pub row_fits : (limits : Limits) (ring : RingRecord) (row : Row) →
    row_refusal limits ring row ≡ None → has_place row ring.devices ≡ false →
    (length ring.devices < limits.devices) × (ring.next_id < limits.ids)
row_fits limits ring row none free =
    let more : first_trouble (of_more limits ring) ≡ None =
    ap (λ o. first_trouble (troubles_at limits ring row o))
    (sym (find_none _ ring.devices free)) ∙ none in
    let both = neither _ _ _ _ more in (
      leb-false limits.devices (length ring.devices) both.0,
      leb-false limits.ids ring.next_id
          both.1,
    )

-- ---- the rows so far

-- The first n rows were put into the old ring, and none of them was refused.
pub record IsPut (limits : Limits) (old : RingRecord) (rows : List Row) (n : ℕ) (now : RingRecord) :
    Type 0 where
  pub after : now ≡ after_rows old (take n rows)
  pub causes : stood (of_rows limits 1 old rows) ≡ stood (of_rows limits (n + 1) now (drop n rows))
  pub least : old.next_id ≤ now.next_id
  pub most : now.next_id ≤ old.next_id + n

pub none_put : (limits : Limits) (old : RingRecord) (rows : List Row) → IsPut limits old rows 0 old
none_put limits old rows = record {
  after = refl;
  causes = refl;
  least = omega arith;
  most =
      omega arith;
}
