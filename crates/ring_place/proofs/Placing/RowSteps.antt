-- A partition some of whose lifted seats are put, and the step to one more.
use Rattle.std.proofs.Common.{◌≡◌, ◌≢◌, ◌==◌, ℕ, zero, suc, ◌+◌, ◌<◌, ◌≤◌, Bool, true, false}
use Rattle.std.proofs.Common.{cond, not, ◌&&◌, ◌||◌, ◌⊎◌, List, [], ◌∷◌, length, Option, Some, None}
use Rattle.std.proofs.Common.{refl, sym, ◌∙◌, ap, subst, arith, inl, inr, if◌then◌else◌, slice_get}
use Rattle.std.proofs.Common.{set, get_or, IfSome, nat_lt, count_by}
use Rattle.std.proofs.lemmas.Bool.Decides.{nat_tests}
use Rattle.std.proofs.lemmas.Bool.{cases_Bool, cases_eq, eq-eqb, ne_eqb}
use Rattle.std.proofs.lemmas.List.{length-set}
use Rattle.std.proofs.lemmas.List.Sums.{sum_by-set}
use Rattle.std.proofs.lemmas.Option.{slice_get_within, get_or_from_slice_get, slice_get-get_or}
use Rattle.ring_model.specs.Ring.{has_device, has_present}
use Rattle.ring_words.specs.declared.device.Device.{Device}
use Rattle.ring_share.specs.Crowd.{is_less, is_on, others, seats_on, tiers_of}
use Rattle.ring_share.specs.Room.{has_open}
use Rattle.ring_room.specs.Load.{Load, crowd_in, has_room_in, have_in, is_free_in}
use Rattle.ring_room.specs.Load.{load_put, want_in}
use Rattle.ring_place.specs.Inner.Placing.{CanPlace, IsAlone, IsChosen, IsLifted, IsPlaced}
use Rattle.ring_place.specs.Inner.Placing.{MayTakeSeat, OpenWant, RowBegun, draws, drawn_in}
use Rattle.ring_place.specs.Inner.Placing.{has_left_from}
use Rattle.ring_room.specs.Free.{has_free_in}
use Rattle.ring_room.specs.Rows.{AreKnown, is_empty}
use Rattle.ring_place.proofs.Placing.Filling.{fills_put, free_if}
use Rattle.ring_place.proofs.Placing.Filling.{free_outside, free_room, free_shrinks, free_some}
use Rattle.ring_place.proofs.Placing.Filling.{room_less, some_free, tiers_hold}
use Rattle.ring_place.proofs.Placing.SettledSeats.{seats_put, settled_step}
use Rattle.ring_place.proofs.Rows.OneWrite.{get_set_other, get_set_same, set_back}

none_drawn : (devices : List Device) (free : Bool) (id : ℕ) (before up : Option ℕ) →
    draws devices free id before up up ≡ false
none_drawn devices free id before None = refl
none_drawn devices free id before (Some x) = refl

pub nothing_drawn : (devices : List Device) (free : Bool) (id : ℕ) (old lifted : List (Option ℕ)) →
    drawn_in devices free id old lifted lifted ≡ 0
nothing_drawn devices free id [] lifted = refl
nothing_drawn devices free id (before ∷ old) [] = refl
nothing_drawn devices free id (before ∷ old) (up ∷ lifted) =
    rw (none_drawn devices free id before up) (omega (
      arith,
      nothing_drawn devices free id old
          lifted,
    ))

-- one more is drawn at most, by the seat that is put
drawn_set : (devices : List Device) (free : Bool) (x : ℕ) (old lifted row : List (Option ℕ))
    (n d : ℕ) (own : Option ℕ) →
    slice_get old n ≡ Some own → slice_get lifted n ≡ Some None → slice_get row n ≡ Some None →
    drawn_in devices free x old lifted (set row n (Some d)) ≡ drawn_in devices free x old lifted row
    + (if draws devices free x own None (Some d) then 1 else 0)
drawn_set devices free x [] lifted row n d own o l r = absurd (cc)
drawn_set devices free x (before ∷ old) [] row n d own o l r = absurd (cc)
drawn_set devices free x (before ∷ old) (up ∷ lifted) [] n d own o l r = absurd (cc)
drawn_set devices free x (before ∷ old) (up ∷ lifted) (to ∷ row) zero d own o l r =
    let same_own : before ≡ own = cc in let same_up : up ≡ None = cc in let same_to : to ≡ None =
    cc in
    rw (same_own, same_up, same_to) (omega arith)
drawn_set devices free x (before ∷ old) (up ∷ lifted) (to ∷ row) (suc n) d own o l r =
    omega (arith, drawn_set devices free x old lifted row n d own o l r)

less_draws : (on left less free : Bool) → (less ≡ true → free ≡ true) →
    (on && (left || less)) ≡ true → (on && (left || free)) ≡ true
less_draws false left less free h k = k
less_draws true true less free h k = k
less_draws true false less free h k = h k

draws_more : (devices : List Device) (less free : Bool) (x : ℕ) (before up to : Option ℕ) →
    (less ≡ true → free ≡ true) →
    draws devices less x before up to ≡ true → draws devices free x before up to ≡ true
draws_more devices less free x before None to h k = less_draws (is_on (λ other. other == x) to)
    (has_left_from devices before to) less free h k
draws_more devices less free x before (Some e) to h k = k

pub one_le : (b c : Bool) (m n : ℕ) → (b ≡ true → c ≡ true) → m ≤ n →
    cond b 1 0 + m ≤ cond c 1 0 + n
one_le true true m n h k = omega arith
one_le true false m n h k = absurd (let e = h refl in cc)
one_le false true m n h k = omega arith
one_le false false m n h k = omega arith

-- fewer are drawn as room shrinks
pub drawn_less : (devices : List Device) (less free : Bool) (x : ℕ)
    (old lifted row : List (Option ℕ)) → (less ≡ true → free ≡ true) →
    drawn_in devices less x old lifted row ≤ drawn_in devices free x old lifted row
drawn_less devices less free x [] lifted row h = omega arith
drawn_less devices less free x (before ∷ old) [] row h = omega arith
drawn_less devices less free x (before ∷ old) (up ∷ lifted) [] h = omega arith
drawn_less devices less free x (before ∷ old) (up ∷ lifted) (to ∷ row) h =
    one_le (draws devices less x before up to) (draws devices free x before up to) _ _
    (draws_more devices less free x before up to h) (drawn_less devices less free x old lifted
    row h)

at_most_one : (b : Bool) → cond b 1 0 ≤ 1
at_most_one true = omega arith
at_most_one false = omega arith

left_or_free : (devices : List Device) (free : Bool) (d : ℕ) (own : Option ℕ) →
    draws devices free d own None (Some d) ≡ true → free ≡ false →
    has_left_from devices own (Some d) ≡ true
left_or_free devices free d own h none = which (d == d) (has_left_from devices own (Some d)) free h
    none
  where
    which : (on left free : Bool) → (on && (left || free)) ≡ true → free ≡ false → left ≡ true
    which on true free h none = refl
    which true false free h none = absurd (cc (h, none))
    which false false free h none = absurd (cc h)

left_parts : (devices : List Device) (from d : ℕ) → has_left_from devices (Some from) (Some d) ≡
    true → (has_present from devices ≡ true) × (d ≢ from)
left_parts devices from d h = parts (has_present from devices) (from == d) h
    (λ same. eq-eqb from d (sym same))
  where
    parts : (a b : Bool) → (a && not b) ≡ true → (d ≡ from → b ≡ true) → (a ≡ true) × (d ≢ from)
    parts true true h k = absurd (cc h)
    parts true false h k = (refl, λ same. absurd (let e = k same in cc e))
    parts false b h k = absurd (cc h)

left_free : (load : Load) (row : List (Option ℕ)) (own : Option ℕ) (d : ℕ) →
    IfSome own (λ x. has_present x load.devices ≡ true → d ≢ x → is_free_in load row d ≡ true) →
    has_left_from load.devices own (Some d) ≡ true → is_free_in load row d ≡ true
left_free load row None d stays h = absurd (cc h)
left_free load row (Some from) d stays h = let parts = left_parts load.devices from d h in
    stays parts.0 parts.1

no_room_full : (opens : Bool) (have want : ℕ) → (opens ≡ false → want ≡ 0) →
    (opens && nat_lt have want) ≡ false → want ≤ have
no_room_full true have want closed h = grind (arith, nat_tests)
no_room_full false have want closed h = let none = closed refl in omega (arith, none)

-- what the code reads at a seat
pub seat_cases : (row : List (Option ℕ)) (n : ℕ) → n < length row → (slice_get row n ≡ Some None) ⊎
    ((e : ℕ) × (slice_get row n ≡ Some (Some e)) × (get_or row n None ≡ Some e))
seat_cases row n within = cases (get_or row n None) refl
  where
    cases : (o : Option ℕ) → get_or row n None ≡ o → (slice_get row n ≡ Some None) ⊎
        ((e : ℕ) × (slice_get row n ≡ Some (Some e)) × (get_or row n None ≡ Some e))
    cases None h = inl (slice_get-get_or row n None within ∙ ap Some h)
    cases (Some e) h = inr (e, slice_get-get_or row n None within ∙ ap Some h, h)

-- The seat takes room on a device that has it: so one more is drawn there at most.
pub record IsRoomTaken (now : Load) (d x drawn more : ℕ) : Type 0 where
  pub same : d ≡ x
  pub room : have_in now d < want_in now d
  pub one : more ≤ drawn + 1

-- a seat that is empty was lifted
lifted_if : (lifted row : List (Option ℕ)) (n : ℕ) → length row ≡ length lifted →
    ((replica id : ℕ) → slice_get lifted replica ≡ Some (Some id) →
    slice_get row replica ≡ Some (Some id)) → slice_get row n ≡ Some None → IsLifted lifted n
lifted_if lifted row n same kept empty =
    let within : n < length lifted = omega (arith, same, slice_get_within row n None empty) in
    elim (seat_cases lifted n within) [
      | inl up ↦ up
      | inr full ↦ absurd (let at = kept n full.0 full.1 in cc (at, empty))
    ]

-- a device outside the partition with one seat more is outside it
free_without : (load : Load) (row : List (Option ℕ)) (n d x : ℕ) → slice_get row n ≡ Some None →
    is_free_in load (set row n (Some d)) x ≡ true → is_free_in load row x ≡ true
free_without load row n d x empty free =
    let outside = free_outside load (set row n (Some d)) x free in
    free_if load row x (free_room load (set row n (Some d)) x free)
    (omega (arith, outside, seats_put row n d x empty))

-- The step: an empty seat goes to the device that is chosen for it.
module _ (now : Load) (old row : List (Option ℕ)) (n d : ℕ) (can : CanPlace now.devices old row)
    (empty : slice_get row n ≡ Some None) (chosen : IsChosen now row (get_or old n None) d) where
  in_row : n < length row
  in_row = slice_get_within row n None empty

  was : slice_get old n ≡ Some (get_or old n None)
  was = slice_get-get_or old n None (let same = can.as_many in omega (arith, same, in_row))

  put_at : slice_get (set row n (Some d)) n ≡ Some (Some d)
  put_at = get_set_same row n (Some d) in_row

  it_is : (e : ℕ) → slice_get (set row n (Some d)) n ≡ Some (Some e) → e ≡ d
  it_is e at = let put = put_at in cc

  next_distinct : (x : ℕ) → seats_on x (set row n (Some d)) ≤ 1
  next_distinct x = elim (cases_eq d x) [
    | inl same ↦ let out : seats_on x row ≡ 0 = subst (λ y. seats_on y row ≡ 0) same chosen.outside
        in omega (arith, seats_put row n d x empty, at_most_one (d == x), out)
    | inr other ↦ let t : (d == x) ≡ false = ne_eqb d x other in let put =
        rw t at (seats_put row n d x empty) in omega (arith, put, can.distinct x)
  ]

  next_known : AreKnown now.devices (set row n (Some d))
  next_known replica x at = elim (cases_eq replica n) [
    | inl same ↦ let is_d : x ≡ d =
        it_is x (subst (λ k. slice_get (set row n (Some d)) k ≡ Some (Some x)) same at) in
        subst (λ y. has_device y now.devices ≡ true) (sym is_d) chosen.known
    | inr other ↦ can.known replica x
        (sym (get_set_other row n replica (Some d) (λ q. other (sym q))) ∙ at)
  ]

  -- a seat that is still empty is another
  still_empty : (replica : ℕ) → IsLifted (set row n (Some d)) replica → (replica ≢ n) ×
      IsLifted row replica
  still_empty replica up = elim (cases_eq replica n) [
    | inl same ↦ absurd (let put = put_at in let at =
        subst (λ k. slice_get (set row n (Some d)) k ≡ Some None) same up in cc (put, at))
    | inr other ↦ (
      other,
      sym (get_set_other row n replica (Some d) (λ q. other (sym q))) ∙ up,
    )
  ]

  next_alone : IsAlone now.devices old (set row n (Some d))
  next_alone replica x up left present =
      let still = still_empty replica up in
      absurd (still.0 (sym ((can.alone replica x still.1 left present).1 n empty)))

  pub can_next : CanPlace now.devices old (set row n (Some d))
  can_next =
      let long = length-set row n (Some d) in
      let as_many = can.as_many in
      let few = can.few in
      let enough = can.enough in
      record {
        as_many = can.as_many ∙ sym long;
        few = omega (arith, long, few);
        old_known = can.old_known;
        known = next_known;
        alone = next_alone;
        distinct = next_distinct;
        enough = omega (arith, long, enough);
      }

  -- one seat fewer is empty
  pub empty_less : count_by is_empty (set row n (Some d)) + 1 ≡ count_by is_empty row
  empty_less =
      let at : get_or row n None ≡ None = get_or_from_slice_get row n None None empty in
      let one = sum_by-set (λ (s : Option ℕ). cond (is_empty s) 1 0) row n (Some d) None in_row in
      let here : ◌≡◌ {A = ℕ} (cond (is_empty (get_or row n None)) 1 0) 1 =
      ap (λ (s : Option ℕ). cond (is_empty s) 1 0) at in
      omega (arith, one, here)

  module _ (lifted : List (Option ℕ)) (so_far : RowBegun now old lifted row) (closed : OpenWant now)
    where
      up : IsLifted lifted n
      up = lifted_if lifted row n so_far.as_many so_far.kept empty

      -- what is free afterwards was free before
      was_free : (x : ℕ) → is_free_in (load_put now d) (set row n (Some d)) x ≡ true →
          is_free_in now row x ≡ true
      was_free x free = free_without now row n d x empty
          (free_shrinks now (load_put now d) (fills_put now d) (set row n (Some d)) x free)

      -- the partition without the seat is the partition as it was
      without : others (set row n (Some d)) n ≡ row
      without = set_back row n None (Some d) empty

      own_full : (from : ℕ) → get_or old n None ≡ Some from → has_present from now.devices ≡ true →
          d ≢ from → (is_less (crowd_in now row d) (crowd_in now row from) ≡ true) ⊎
          (want_in now from ≤ have_in (load_put now d) from)
      own_full from is present ne = elim (cases_Bool (has_room_in now from)) [
        | inl room ↦ inl (chosen.own_wins from is (free_if now row from room
            (can.alone n from empty (was ∙ ap Some is) present).0) ne)
        | inr full ↦ inr (let more = (fills_put now d).counts from in let enough =
            no_room_full (has_open from now.devices) (have_in now from) (want_in now from)
            (closed from) full in omega (arith, more, enough))
      ]

      placed_here : IsPlaced (load_put now d) old (set row n (Some d)) n
      placed_here = record {
        seated = (d, put_at, subst (λ o. MayTakeSeat now.devices o d) (sym was) chosen.may_take);
        settled = λ e at x free.
            subst (λ r. is_less (crowd_in now r x) (crowd_in now r e) ≡ false) (sym without)
            (subst (λ y. is_less (crowd_in now row x) (crowd_in now row y) ≡ false)
            (sym (it_is e at)) (chosen.least x (was_free x free)));
        gain = λ from to left present is ne.
            let same : to ≡ d = it_is to is in
            let own = was in
            let is_own : get_or old n None ≡ Some from = cc in
            let ne' : d ≢ from = (λ q. ne (same ∙ q)) in
            subst (λ y. (is_less (crowd_in now (others (set row n (Some d)) n) y)
            (crowd_in now (others (set row n (Some d)) n) from) ≡ true) ⊎
            (want_in now from ≤ have_in (load_put now d) from)) (sym same)
            (subst (λ r. (is_less (crowd_in now r d) (crowd_in now r from) ≡ true) ⊎
            (want_in now from ≤ have_in (load_put now d) from)) (sym without)
            (own_full from is_own present ne'));
      }

      -- a seat that was put earlier
      placed_there : (replica : ℕ) → replica ≢ n → IsLifted lifted replica →
          IsPlaced now old row replica → IsPlaced (load_put now d) old (set row n (Some d)) replica
      placed_there replica ne is_up placed = record {
        seated = (
          placed.seated.0,
          get_set_other row n replica (Some d) (λ q. ne (sym q)) ∙
              placed.seated.1,
          placed.seated.2,
        );
        settled = settled_step (tiers_of now.devices) (tiers_hold now.devices) (is_free_in now row)
            (is_free_in (load_put now d) (set row n (Some d))) was_free
            row replica n d ne empty chosen.free chosen.least (settled_after placed);
        gain = λ from to left present is ne'. absurd
            (ne (sym ((so_far.alone replica from is_up left present).1 n up)));
      }
        where
          settled_after : IsPlaced now old row replica → (e : ℕ) →
              slice_get row replica ≡ Some (Some e) → (x : ℕ) → is_free_in now row x ≡ true →
              is_less (crowd_in now (others row replica) x)
              (crowd_in now (others row replica) e) ≡ false
          settled_after p = p.settled

      placed_next : (replica e : ℕ) → IsLifted lifted replica →
          slice_get (set row n (Some d)) replica ≡ Some (Some e) →
          IsPlaced (load_put now d) old (set row n (Some d)) replica
      placed_next replica e is_up at = elim (cases_eq replica n) [
        | inl same ↦ subst (λ k. IsPlaced (load_put now d) old (set row n (Some d)) k) (sym same)
            placed_here
        | inr other ↦ placed_there replica other is_up (so_far.placed replica e is_up
            (sym (get_set_other row n replica (Some d) (λ q. other (sym q))) ∙ at))
      ]

      pub begun_next : RowBegun (load_put now d) old lifted (set row n (Some d))
      begun_next = record {
        as_many = length-set row n (Some d) ∙ so_far.as_many;
        alone = so_far.alone;
        kept = λ replica e at. get_set_other row n replica (Some d) (λ q. absurd (let same =
            subst (λ s. slice_get lifted s ≡ Some (Some e)) (sym q) at in let is_up = up in
            cc (is_up, same))) ∙ so_far.kept replica e at;
        placed = placed_next;
      }

      free_before : has_free_in now (set row n (Some d)) ≡ true → has_free_in now row ≡ true
      free_before h = let r = free_some now (set row n (Some d)) h in
          some_free now row r.0 (free_without now row n d r.0 empty r.1)

      chosen_free : has_free_in now row ≡ true → is_free_in now row d ≡ true
      chosen_free h = let r = free_some now row h in chosen.free r.0 r.1

      draws_free : draws now.devices (has_free_in now (set row n (Some d))) d (get_or old n None) None
          (Some d) ≡ true → is_free_in now row d ≡ true
      draws_free h = elim (cases_Bool (has_free_in now (set row n (Some d)))) [
        | inl some ↦ chosen_free (free_before some)
        | inr none ↦ left_free now row (get_or old n None) d chosen.stays (left_or_free now.devices
            (has_free_in now (set row n (Some d))) d (get_or old n None) h none)
      ]

      drawn_more : (x : ℕ) → drawn_in now.devices (has_free_in now (set row n (Some d))) x old lifted
          (set row n (Some d)) ≤ drawn_in now.devices (has_free_in now row) x old lifted row +
          (if draws now.devices (has_free_in now (set row n (Some d))) x (get_or old n None) None
          (Some d) then 1 else 0)
      drawn_more x =
          let e = drawn_set now.devices (has_free_in now (set row n (Some d))) x old lifted row n d
          (get_or old n None) was up empty in
          let less = drawn_less now.devices (has_free_in now (set row n (Some d)))
          (has_free_in now row) x old lifted row free_before in
          omega (arith, e, less)

      drawn_at : (drawn_in now.devices (has_free_in now (set row n (Some d))) d old lifted
          (set row n (Some d)) ≤ drawn_in now.devices (has_free_in now row) d old lifted row) ⊎
          IsRoomTaken now d d (drawn_in now.devices (has_free_in now row) d old lifted row)
          (drawn_in now.devices (has_free_in now (set row n (Some d))) d old lifted
          (set row n (Some d)))
      drawn_at = elim (cases_Bool (draws now.devices (has_free_in now (set row n (Some d))) d
          (get_or old n None) None (Some d))) [
            | inl drawn ↦ let more = rw drawn at (drawn_more d) in inr (record {
              same = refl;
              room = room_less now d (free_room now row d (draws_free drawn));
              one = more;
            })
            | inr not_drawn ↦ let more = rw not_drawn at (drawn_more d) in inl (omega (arith, more))
          ]

      -- the seat takes room on no device, or on one that has it
      pub seat_drawn : (x : ℕ) → (drawn_in now.devices (has_free_in now (set row n (Some d))) x old
          lifted (set row n (Some d)) ≤ drawn_in now.devices (has_free_in now row) x old lifted row) ⊎
          IsRoomTaken now d x (drawn_in now.devices (has_free_in now row) x old lifted row)
          (drawn_in now.devices (has_free_in now (set row n (Some d))) x old lifted
          (set row n (Some d)))
      seat_drawn x = elim (cases_eq d x) [
        | inl same ↦ subst (λ y. (drawn_in now.devices (has_free_in now (set row n (Some d))) y old
            lifted (set row n (Some d)) ≤ drawn_in now.devices (has_free_in now row) y old lifted
            row) ⊎ IsRoomTaken now d y (drawn_in now.devices (has_free_in now row) y old lifted row)
            (drawn_in now.devices (has_free_in now (set row n (Some d))) y old lifted
            (set row n (Some d)))) same drawn_at
        | inr other ↦
            let t : (d == x) ≡ false = ne_eqb d x other in
            let none : draws now.devices (has_free_in now (set row n (Some d))) x (get_or old n None)
            None (Some d) ≡ false = rw t refl in
            let more = rw none at (drawn_more x) in
            inl (omega (arith, more))
      ]

pub if_some_at : (P : ℕ → Type 0) (o : Option ℕ) → ((d : ℕ) → o ≡ Some d → P d) → IfSome o P
if_some_at P None h = tt
if_some_at P (Some d) h = h d refl

-- the device that a lifted seat left has no seat of the partition, if it remains
pub own_apart : (devices : List Device) (old row : List (Option ℕ)) (n : ℕ) →
    CanPlace devices old row → slice_get row n ≡ Some None →
    IfSome (get_or old n None) (λ id. has_present id devices ≡ true → seats_on id row ≡ 0)
own_apart devices old row n can empty =
    if_some_at (λ id. has_present id devices ≡ true → seats_on id row ≡ 0) (get_or old n None)
    (λ id e present. (can.alone n id empty (slice_get-get_or old n None (let same = can.as_many in
    let within = slice_get_within row n None empty in omega (arith, same, within)) ∙ ap Some e)
    present).0)
