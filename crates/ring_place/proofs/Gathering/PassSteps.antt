-- The passes over all partitions.
use Rattle.std.proofs.Common.{◌≡◌, ◌≢◌, ◌==◌, ℕ, zero, suc, ◌+◌, ◌<◌, ◌≤◌, Bool, true, false, ◌||◌}
use Rattle.std.proofs.Common.{List, [], ◌∷◌, length, map, set, Option, Some, None, refl, sym, ◌∙◌}
use Rattle.std.proofs.Common.{ap, subst, ⊎_elim, sum_by, arith}
use Rattle.std.specs.Prelude.{slice_get, slice_index_or}
use Rattle.std.specs.List.{list_any}
use Rattle.std.proofs.lemmas.Bool.{cases_Bool, eqb-true, eqb-false, or_cases, or_parts}
use Rattle.std.proofs.lemmas.List.{get_or-set_other, get_or-set_same, length-map, length-set}
use Rattle.std.proofs.lemmas.List.Sums.{sum_by-set}
use Rattle.ring_model.specs.Ring.{has_device, has_present}
use Rattle.ring_words.specs.declared.device.Device.{Device}
use Rattle.ring_share.specs.Crowd.{seats_on}
use Rattle.ring_room.specs.Load.{Load, is_free_in, want_in}
use Rattle.ring_room.specs.Rows.{AreKnown, is_empty}
use Rattle.ring_place.specs.Made.{row_at}
use Rattle.ring_place.specs.declared.gather.Pass.{Pass}
use Rattle.ring_place.specs.declared.gather.Pass.TheVariants.{First, Apart, Beside, Second}
use Rattle.ring_place.specs.Inner.Gathering.{AreRowsOfSeats, Calm, Crowded, Drained, Falls, Gives}
use Rattle.ring_place.specs.Inner.Gathering.{Goes}
use Rattle.ring_place.specs.Inner.Gathering.{Holds, IsApart, IsFilled, IsFirst, IsLater, IsLifting}
use Rattle.ring_place.specs.Inner.Gathering.{IsPass, IsSecond, Lifts, LostFirst, Rests, Same}
use Rattle.ring_place.specs.Inner.Gathering.{Surplus, Takes, present_only}
use Rattle.ring_deal.specs.Inner.Orders.{is_among}
use Rattle.ring_place.proofs.Gathering.BothPasses.{lifted_empty}
use Rattle.ring_place.proofs.Gathering.LaterPasses.{later_only}
use Rattle.ring_place.proofs.Rows.LiftedSeats.{known_lifted}
use Rattle.ring_room.proofs.Searching.LessCrowded.{none_free}

-- the devices' seats change as a partition's do
pub filled_step : (before after : Load) (devices : List Device) (wanted : List ℕ)
    (rows next : List (List (Option ℕ))) (n : ℕ)
    → IsFilled before devices wanted rows → n < length rows → next ≡ set rows n (row_at next n) →
    Takes before after (row_at rows n) (row_at next n) → IsFilled after devices wanted next
filled_step before after devices wanted rows next n filled within written takes = record {
  devices_are = takes.devices ∙ filled.devices_are;
  wanted_are = takes.wanted ∙ filled.wanted_are;
  load = takes.load;
  counts = λ id known.
      let e = sum_by-set (seats_on id) rows n (row_at next n) [] within in
      let e' = subst (λ r. sum_by (seats_on id) r + seats_on id (row_at rows n) ≡ sum_by
      (seats_on id) rows + seats_on id (row_at next n)) (sym written) e in
      let counted = takes.counts id (ap (has_device id) filled.devices_are ∙ known) in
      let before_counts = filled.counts id known in
      omega (arith, e', counted, before_counts);
}

other_row : (rows next : List (List (Option ℕ))) (n p : ℕ) → next ≡ set rows n (row_at next n) →
    p ≢ n → row_at next p ≡ row_at rows p
other_row rows next n p written ne = ap (λ r. row_at r p) written ∙ get_or-set_other rows n p
    (row_at next n) [] ne

-- a partition that isn't gone through yet isn't one that was
among_other : (done : List ℕ) (n p : ℕ) → is_among done n ≡ false → is_among done p ≡ true → p ≢ n
among_other done n p none some same = absurd (let here = ap (is_among done) same in cc)

-- what was done at the other partitions still holds as devices keep fewer seats
second_there : (was kept after : Load) (locked : Bool) (old row : List (Option ℕ)) →
    Falls kept after → after.devices ≡ kept.devices → after.wanted ≡ kept.wanted →
    AreKnown kept.devices old
    → IsSecond was kept locked old row → IsSecond was after locked old row
second_there was kept after locked old row falls devices wanted known (Surplus none unlocked replica
    id lifts free keeps) =
    Surplus none unlocked replica id lifts free
    (ap_le (sym (want_same kept after id devices wanted))
    (falls.floor id (known replica id lifts.at) keeps))
  where
    want_same : (kept after : Load) (id : ℕ) → after.devices ≡ kept.devices →
        after.wanted ≡ kept.wanted → want_in after id ≡ want_in kept id
    want_same kept after id devices wanted = rw (devices, wanted) refl

    ap_le : {a b n : ℕ} → a ≡ b → a ≤ n → b ≤ n
    ap_le e h = omega (arith, e, h)
second_there was kept after locked old row falls devices wanted known (Same is rest) =
    Same is (λ none unlocked free replica id at.
    let want : want_in after id ≡ want_in kept id = rw (devices, wanted) refl in
    let down = falls.down id (known replica id at) in
    let had = rest none unlocked free replica id at in
    omega (arith, want, down, had))

apart_there : (was kept after : Load) (locked : Bool) (old row : List (Option ℕ)) →
    Falls kept after → after.devices ≡ kept.devices → after.wanted ≡ kept.wanted →
    AreKnown kept.devices old
    → IsApart was kept locked old row → IsApart was after locked old row
apart_there was kept after locked old row falls devices wanted known (Goes none unlocked replica id
    lifts free goes keeps) =
    let want : want_in after id ≡ want_in kept id = rw (devices, wanted) refl in
    let still = falls.floor id (known replica id lifts.at) keeps in
    Goes none unlocked replica id lifts free goes (omega (arith, want, still))
apart_there was kept after locked old row falls devices wanted known (Rests is rest) =
    Rests is (λ none unlocked free replica id at over.
    let want : want_in after id ≡ want_in kept id = rw (devices, wanted) refl in
    let down = falls.down id (known replica id at) in
    rest none unlocked free replica id at (omega (arith, want, down, over)))

later_there : (was kept after : Load) (locked : Bool) (old row : List (Option ℕ)) →
    Falls kept after → after.devices ≡ kept.devices → after.wanted ≡ kept.wanted →
    AreKnown kept.devices old
    → IsLater was kept locked old row → IsLater was after locked old row
later_there was kept after locked old row falls devices wanted known (Gives none unlocked replica id
    lifts free keeps) =
    let want : want_in after id ≡ want_in kept id = rw (devices, wanted) refl in
    let still = falls.floor id (known replica id lifts.at) keeps in
    Gives none unlocked replica id lifts free (omega (arith, want, still))
later_there was kept after locked old row falls devices wanted known (Holds is) = Holds is

-- what a pass lifted of the other partitions is still what it lifts
lifting_there : (pass : Pass) (was kept after : Load) (locked : Bool) (old row : List (Option ℕ)) →
    (pass ≢ First → Falls kept after) → after.devices ≡ kept.devices → after.wanted ≡ kept.wanted
    → AreKnown kept.devices old → IsLifting pass was kept locked old row →
    IsLifting pass was after locked old row
lifting_there First was kept after locked old row falls devices wanted known is = is
lifting_there Apart was kept after locked old row falls devices wanted known is =
    apart_there was kept after locked old row (falls (λ (e : Apart ≡ First). cc e)) devices wanted
    known is
lifting_there (Beside most) was kept after locked old row falls devices wanted known is =
    later_there was kept after locked old row (falls (λ (e : Beside most ≡ First). cc e)) devices
    wanted known is
lifting_there Second was kept after locked old row falls devices wanted known is =
    second_there was kept after locked old row (falls (λ (e : Second ≡ First). cc e)) devices wanted
    known is

-- ---- a pass

pub pass_start : (pass : Pass) (was kept : Load) (locked : List Bool) (old : List (List (Option ℕ)))
    → IsFilled kept was.devices was.wanted old → IsPass pass [] was kept locked old old
pass_start pass was kept locked old filled = record {
  as_many = refl;
  rest = λ p none. refl;
  lifted = λ p some. absurd (cc some);
  filled = filled;
}

-- where no device is free there is nothing for the second pass
pub no_second : (done : List ℕ) (was kept : Load) (locked : List Bool)
    (rows : List (List (Option ℕ))) → IsFilled kept was.devices was.wanted rows
    → ((row : List (Option ℕ)) (id : ℕ) → is_free_in was row id ≡ false)
    → IsPass Second done was kept locked rows rows
no_second done was kept locked rows filled none = record {
  as_many = refl;
  rest = λ p out. refl;
  lifted = λ p some. Same refl (λ full unlocked free.
      absurd (let no = none_free was (row_at rows p) (none (row_at rows p)) in cc (no, free)));
  filled = filled;
}

pass_step : (pass : Pass) (done more : List ℕ) (n : ℕ) (was kept after : Load) (locked : List Bool)
    (old rows next : List (List (Option ℕ))) → IsPass pass done was kept locked old rows →
    n < length old
    → ((p : ℕ) → is_among done p ≡ true → p < length old) → AreRowsOfSeats was.devices old →
    is_among done n ≡ false → ((p : ℕ) → is_among more p ≡ (is_among done p || (n == p)))
    → next ≡ set rows n (row_at next n) → IsLifting pass was after (slice_index_or locked n false)
    (row_at rows n) (row_at next n) → Takes kept after (row_at rows n) (row_at next n)
    → (pass ≢ First → Falls kept after) → IsPass pass more was after locked old next
pass_step pass done more n was kept after locked old rows next so_far within inside are new grows
    written here takes falls = record {
      as_many = ap length written ∙ length-set rows n (row_at next n) ∙ so_far.as_many;
      rest = λ p none.
          let parts = or_parts (is_among done p) (n == p) (sym (grows p) ∙ none) in
          other_row rows next n p written (λ same. eqb-false n p parts.1 (sym same)) ∙ so_far.rest p
          parts.0;
      lifted = λ p some. ⊎_elim
          (λ before. subst (λ r. IsLifting pass was after (slice_index_or locked p false)
          (row_at old p)
          r) (sym (other_row rows next n p written (among_other done n p new before)))
          (lifting_there pass was kept after (slice_index_or locked p false) (row_at old p)
          (row_at rows p) falls takes.devices takes.wanted
          (subst (λ ds. AreKnown ds (row_at old p)) (sym so_far.filled.devices_are)
          (are.known p (inside p before))) (so_far.lifted p before)))
          (λ same.
          subst (λ q. IsLifting pass was after (slice_index_or locked q false) (row_at old q)
          (row_at next q)) (eqb-true n p same)
          (subst (λ r. IsLifting pass was after (slice_index_or locked n false) r (row_at next n))
          (so_far.rest n new) here))
          (or_cases (is_among done p) (n == p) (sym (grows p) ∙ some));
      filled = filled_step kept after was.devices was.wanted rows next n so_far.filled (let many =
          so_far.as_many in omega (arith, many, within)) written takes;
    }

-- so it is where another row is written
pub pass_written : (pass : Pass) (done more : List ℕ) (n : ℕ) (was kept after : Load)
    (locked : List Bool) (old rows next : List (List (Option ℕ))) (row : List (Option ℕ))
    → IsPass pass done was kept locked old rows → n < length old →
    ((p : ℕ) → is_among done p ≡ true → p < length old) → AreRowsOfSeats was.devices old →
    is_among done n ≡ false
    → ((p : ℕ) → is_among more p ≡ (is_among done p || (n == p))) → next ≡ set rows n row →
    IsLifting pass was after (slice_index_or locked n false) (row_at rows n) row
    → Takes kept after (row_at rows n) row → (pass ≢ First → Falls kept after) →
    IsPass pass more was after locked old next
pass_written pass done more n was kept after locked old rows next row so_far within inside are new
    grows written here takes falls =
    let many = so_far.as_many in
    let is : row_at next n ≡ row = ap (λ r. row_at r n) written ∙ get_or-set_same rows n row []
    (omega (arith, many, within)) in
    pass_step pass done more n was kept after locked old rows next so_far within inside are new
    grows (written ∙ ap (set rows n) (sym is))
    (subst (λ r. IsLifting pass was after (slice_index_or locked n false) (row_at rows n) r)
    (sym is) here) (subst (λ r. Takes kept after (row_at rows n) r) (sym is) takes) falls

-- ---- the rows after the first pass

-- a partition's seats stay on devices
present_kept : (devices : List Device) (seat : Option ℕ) (id : ℕ) → present_only devices seat ≡ Some
    id → seat ≡ Some id
present_kept devices None id h = absurd (cc h)
present_kept devices (Some e) id h = ⊎_elim
    (λ there. let kept = rw there at h in kept)
    (λ gone. absurd (let none = rw gone at h in cc none))
    (cases_Bool (has_present e devices))

map_at : (f : Option ℕ → Option ℕ) (xs : List (Option ℕ)) (k : ℕ) (y : Option ℕ) →
    slice_get (map f xs) k ≡ Some y → (x : Option ℕ) × (slice_get xs k ≡ Some x) × (f x ≡ y)
map_at f [] k y h = absurd (cc h)
map_at f (x ∷ xs) zero y h = (x, refl, (let e : f x ≡ y = cc in e))
map_at f (x ∷ xs) (suc k) y h = map_at f xs k y h

first_known : (devices : List Device) (was : Load) (locked : Bool) (old row : List (Option ℕ)) →
    IsFirst was locked old row → AreKnown devices old → AreKnown devices row
first_known devices was locked old row (LostFirst some is) known k id at =
    let found = map_at (present_only was.devices) old k (Some id) (ap (λ r. slice_get r k) (sym is)
    ∙ at) in
    known k id (found.1 ∙ ap Some (present_kept was.devices found.0 id found.2))
first_known devices was locked old row (Crowded none unlocked replica e lifts less) known k id at =
    known_lifted devices old replica known k id (ap (λ r. slice_get r k) (sym lifts.lifted) ∙ at)
first_known devices was locked old row (Drained none unlocked replica e lifts drained) known k id at =
    known_lifted devices old replica known k id (ap (λ r. slice_get r k) (sym lifts.lifted) ∙ at)
first_known devices was locked old row (Calm none is calm) known k id at =
    known k id (ap (λ r. slice_get r k) (sym is) ∙ at)

first_length : (was : Load) (locked : Bool) (old row : List (Option ℕ)) →
    IsFirst was locked old row → length row ≡ length old
first_length was locked old row (LostFirst some is) =
    ap length is ∙ length-map old (present_only was.devices)
first_length was locked old row (Crowded none unlocked replica e lifts less) =
    ap length lifts.lifted ∙ length-set old replica None
first_length was locked old row (Drained none unlocked replica e lifts drained) =
    ap length lifts.lifted ∙ length-set old replica None
first_length was locked old row (Calm none is calm) = ap length is

lifts_known : (devices : List Device) (old row : List (Option ℕ)) (replica id : ℕ) →
    Lifts old row replica id → AreKnown devices old → AreKnown devices row
lifts_known devices old row replica id lifts known k e at =
    known_lifted devices old replica known k e (ap (λ r. slice_get r k) (sym lifts.lifted) ∙ at)

later_known : (devices : List Device) (was kept : Load) (locked : Bool) (old row : List (Option ℕ)) →
    IsLater was kept locked old row → AreKnown devices old → AreKnown devices row
later_known devices was kept locked old row (Gives none unlocked replica id lifts free keeps) known =
    lifts_known devices old row replica id lifts known
later_known devices was kept locked old row (Holds is) known = subst (AreKnown devices) (sym is) known

later_length : (was kept : Load) (locked : Bool) (old row : List (Option ℕ)) →
    IsLater was kept locked old row → length row ≡ length old
later_length was kept locked old row (Gives none unlocked replica id lifts free keeps) =
    ap length lifts.lifted ∙ length-set old replica None
later_length was kept locked old row (Holds is) = ap length is

lifting_known : (pass : Pass) (devices : List Device) (was kept : Load) (locked : Bool)
    (old row : List (Option ℕ)) → IsLifting pass was kept locked old row → AreKnown devices old →
    AreKnown devices row
lifting_known First devices was kept locked old row is known =
    first_known devices was locked old row is known
lifting_known Apart devices was kept locked old row is known =
    later_known devices was kept locked old row (later_only Apart was kept locked old row
    (λ (e : Apart ≡ First). cc e) is) known
lifting_known (Beside most) devices was kept locked old row is known =
    later_known devices was kept locked old row is known
lifting_known Second devices was kept locked old row is known =
    later_known devices was kept locked old row (later_only Second was kept locked old row
    (λ (e : Second ≡ First). cc e) is) known

lifting_length : (pass : Pass) (was kept : Load) (locked : Bool) (old row : List (Option ℕ)) →
    IsLifting pass was kept locked old row → length row ≡ length old
lifting_length First was kept locked old row is = first_length was locked old row is
lifting_length Apart was kept locked old row is = later_length was kept locked old row
    (later_only Apart was kept locked old row (λ (e : Apart ≡ First). cc e) is)
lifting_length (Beside most) was kept locked old row is = later_length was kept locked old row is
lifting_length Second was kept locked old row is = later_length was kept locked old row
    (later_only Second was kept locked old row (λ (e : Second ≡ First). cc e) is)

pub pass_rows : (pass : Pass) (done : List ℕ) (devices : List Device) (was kept : Load)
    (locked : List Bool) (old rows : List (List (Option ℕ))) → IsPass pass done was kept locked old
    rows → ((p : ℕ) → p < length old → is_among done p ≡ true) → AreRowsOfSeats devices old →
    AreRowsOfSeats devices rows
pass_rows pass done devices was kept locked old rows is whole are = record {
  known = λ p lt.
      let many = is.as_many in
      let within : p < length old = omega (arith, lt, many) in
      lifting_known pass devices was kept (slice_index_or locked p false) (row_at old p)
      (row_at rows p) (is.lifted p (whole p within)) (are.known p within);
  few = λ p lt.
      let many = is.as_many in
      let within : p < length old = omega (arith, lt, many) in
      let same = lifting_length pass was kept (slice_index_or locked p false) (row_at old p)
      (row_at rows p) (is.lifted p (whole p within)) in
      let few = are.few p within in
      omega (arith, same, few);
}

-- ---- a pass that goes before the second

-- no device has more, and none fewer than it wants
pub falls_none : (kept : Load) → Falls kept kept
falls_none kept = record { down = λ id known. omega arith; floor = λ id known keeps. keeps }

pub falls_more : (before kept after : Load) → kept.devices ≡ before.devices →
    kept.wanted ≡ before.wanted → Falls before kept → Falls kept after → Falls before after
falls_more before kept after devices wanted one other = record {
  down = λ id known.
      let a = one.down id known in
      let b = other.down id (ap (has_device id) devices ∙ known) in
      omega (arith, a, b);
  floor = λ id known keeps.
      let want : want_in kept id ≡ want_in before id = rw (devices, wanted) refl in
      let a = one.floor id known keeps in
      let b = other.floor id (ap (has_device id) devices ∙ known) (omega (arith, want, a)) in
      omega (arith, want, b);
}

-- what both lift of a partition is what the second alone may lift
second_after : (was between left : Load) (locked : Bool) (old middle row : List (Option ℕ)) →
    Falls between left → left.devices ≡ between.devices → left.wanted ≡ between.wanted →
    AreKnown between.devices old
    → IsLater was between locked old middle → IsSecond was left locked middle row →
    IsSecond was left locked old row
second_after was between left locked old middle row falls devices wanted known (Gives none unlocked
    replica id lifts free keeps) (Surplus full unlocked' replica' id' lifts' free' keeps') =
    absurd (let some = lifted_empty old replica id lifts.at in let here =
    ap (list_any is_empty) lifts.lifted in cc (full, some, here))
second_after was between left locked old middle row falls devices wanted known (Gives none unlocked
    replica id lifts free keeps) (Same is rest) =
    let want : want_in left id ≡ want_in between id = rw (devices, wanted) refl in
    let still = falls.floor id (known replica id lifts.at) keeps in
    Surplus none unlocked replica id (record { at = lifts.at; lifted = is ∙ lifts.lifted }) free
    (omega (arith, want, still))
second_after was between left locked old middle row falls devices wanted known (Holds is) second =
    subst (λ r. IsSecond was left locked r row) is second

pub second_passed : (pass : Pass) (done : List ℕ) (was between left : Load) (locked : List Bool)
    (old middle rows : List (List (Option ℕ))) → pass ≢ First → AreRowsOfSeats was.devices old
    → ((p : ℕ) → is_among done p ≡ true → p < length old) → Falls between left
    → IsPass pass done was between locked old middle → IsPass Second done was left locked middle rows
    → IsPass Second done was left locked old rows
second_passed pass done was between left locked old middle rows later are inside falls before second =
    record {
      as_many = second.as_many ∙ before.as_many;
      rest = λ p none. second.rest p none ∙ before.rest p none;
      lifted = λ p some. second_after was between left (slice_index_or locked p false)
          (row_at old p) (row_at middle p) (row_at rows p) falls
          (second.filled.devices_are ∙ sym before.filled.devices_are)
          (second.filled.wanted_are ∙ sym before.filled.wanted_are)
          (subst (λ ds. AreKnown ds (row_at old p)) (sym before.filled.devices_are) (are.known p
          (inside p some))) (later_only pass was between (slice_index_or locked p false)
          (row_at old p) (row_at middle p) later (before.lifted p some)) (second.lifted p some);
      filled = second.filled;
    }
