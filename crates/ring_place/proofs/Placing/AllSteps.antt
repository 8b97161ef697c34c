-- All partitions: a seat that is put, a turn, and the turns one after another.
use Rattle.std.proofs.Common.{◌≡◌, ◌≢◌, ◌==◌, ℕ, zero, suc, ◌+◌, ◌-◌, ◌<◌, ◌≤◌, ◌||◌, Bool, true}
use Rattle.ring_words.specs.Limits.{greatest_long}
use Rattle.std.proofs.Common.{false, cond, List, [], ◌∷◌, length, Option, Some, None, refl, sym}
use Rattle.std.proofs.Common.{◌∙◌, ap, subst, arith, sum_by, slice_get, set, get_or, take}
use Rattle.std.proofs.Common.{count_by, ◌⊎◌, inl, inr, All}
use Rattle.std.proofs.lemmas.Bool.{cases_eq, eq-eqb, eqb-true, ne_eqb}
use Rattle.std.proofs.lemmas.List.{length-set, get_or-set_other, get_or-set_same, take_all}
use Rattle.std.proofs.lemmas.List.Sums.{sum_by-set, sum_by-le-sum_by}
use Rattle.std.proofs.lemmas.List.Sums.{count_by-le-length}
use Rattle.std.proofs.lemmas.Option.{slice_get_within}
use Rattle.ring_model.specs.Ring.{has_device}
use Rattle.ring_words.specs.declared.device.Device.{Device}
use Rattle.ring_share.specs.Crowd.{is_on, seats_on}
use Rattle.ring_share.specs.Room.{has_open}
use Rattle.ring_room.specs.Load.{Load, IsLoad, have_in, load_put, want_in}
use Rattle.ring_place.specs.Made.{row_at}
use Rattle.ring_room.specs.Free.{has_free_in}
use Rattle.ring_room.specs.Rows.{is_empty}
use Rattle.ring_deal.specs.Inner.Orders.{is_among}
use Rattle.ring_place.specs.declared.place.Turn.{Turn}
use Rattle.ring_place.specs.declared.place.Turn.TheVariants.{Homeless, Home, Rest}
use Rattle.ring_place.specs.Inner.Placing.{AllPlaced, AreTurns, AreWaiting, CanPlace, CanPlaceAll}
use Rattle.ring_place.specs.Inner.Placing.{Fills, IsChosen, IsSeatPut, IsTurnOf, KeepsPlaced}
use Rattle.ring_place.specs.Inner.Placing.{OpenWant, Puts, RowBegun, RowSeated, SomePlaced, Waits}
use Rattle.ring_place.specs.Inner.Placing.{drawn, drawn_in, least_put}
use Rattle.ring_room.proofs.Searching.SeatCounts.{put_more}
use Rattle.ring_place.proofs.Placing.Filling.{begun_fills, fills_put, fills_self, fills_trans}
use Rattle.ring_place.proofs.Placing.Filling.{free_shrinks, free_some, some_free, want_fills}
use Rattle.ring_place.proofs.Placing.RowPlaces.{some_empty}
use Rattle.ring_place.proofs.Placing.RowSteps.{IsRoomTaken, begun_next, can_next, drawn_less}
use Rattle.ring_place.proofs.Placing.RowSteps.{empty_less, nothing_drawn, seat_cases, seat_drawn}
use Rattle.ring_place.proofs.Placing.SettledSeats.{seats_put}
use Rattle.ring_deal.proofs.Orders.{among_more}

-- the same free devices or fewer
pub has_free_shrinks : (old new : Load) → Fills old new → (row : List (Option ℕ)) →
    has_free_in new row ≡ true → has_free_in old row ≡ true
has_free_shrinks old new fills row h = let r = free_some new row h in
    some_free old row r.0 (free_shrinks old new fills row r.0 r.1)

pub drawn_shrinks : (a b : Load) → Fills a b → (id : ℕ) (old lifted rows : List (List (Option ℕ))) →
    drawn b id old lifted rows ≤ drawn a id old lifted rows
drawn_shrinks a b fills id [] lifted rows = omega arith
drawn_shrinks a b fills id (before ∷ old) [] rows = omega arith
drawn_shrinks a b fills id (before ∷ old) (up ∷ lifted) [] = omega arith
drawn_shrinks a b fills id (before ∷ old) (up ∷ lifted) (to ∷ rows) =
    let less : drawn_in b.devices (has_free_in b to) id before up to ≤ drawn_in a.devices
    (has_free_in a to) id before up to =
    subst (λ (ds : List Device). drawn_in ds (has_free_in b to) id before up to ≤ drawn_in a.devices
    (has_free_in a to) id before up to) (sym fills.devices)
    (drawn_less a.devices (has_free_in b to) (has_free_in a to) id before up to
    (has_free_shrinks a b fills to)) in
    omega (arith, less, drawn_shrinks a b fills id old lifted rows)

-- one partition is written
drawn_written : (load : Load) (id : ℕ) (old lifted rows : List (List (Option ℕ))) (p : ℕ)
    (row : List (Option ℕ)) →
    length old ≡ length lifted → length rows ≡ length lifted → p < length lifted →
    drawn load id old lifted (set rows p row) + drawn_in load.devices
    (has_free_in load (row_at rows p)) id (row_at old p) (row_at lifted p) (row_at rows p) ≡ drawn
    load id old lifted rows + drawn_in load.devices (has_free_in load row) id (row_at old p)
    (row_at lifted p) row
drawn_written load id old [] rows p row o l within = absurd (omega arith)
drawn_written load id [] (up ∷ lifted) rows p row o l within = absurd (omega arith)
drawn_written load id (before ∷ old) (up ∷ lifted) [] p row o l within = absurd (omega arith)
drawn_written load id (before ∷ old) (up ∷ lifted) (to ∷ rows) zero row o l within = omega arith
drawn_written load id (before ∷ old) (up ∷ lifted) (to ∷ rows) (suc p) row o l within =
    omega (
      arith,
      drawn_written load id old lifted rows p row (omega arith) (omega arith)
          (omega arith),
    )

drawn_none : (load : Load) (id : ℕ) (old lifted : List (List (Option ℕ))) →
    drawn load id old lifted lifted ≡ 0
drawn_none load id [] lifted = refl
drawn_none load id (before ∷ old) [] = refl
drawn_none load id (before ∷ old) (up ∷ lifted) =
    omega (
      arith,
      nothing_drawn load.devices (has_free_in load up) id before up,
      drawn_none load id old lifted,
    )

-- what isn't open still wants nothing
pub open_want_fills : (a b : Load) → Fills a b → OpenWant a → OpenWant b
open_want_fills a b fills closed id shut = want_fills a b fills id ∙ closed id
    (ap (has_open id) (sym fills.devices) ∙ shut)

-- ---- a seat

-- the seats of all partitions are few
fits : (load : Load) (old rows : List (List (Option ℕ))) (id : ℕ) → CanPlaceAll load old rows →
    has_device id load.devices ≡ true → have_in load id < greatest_long
fits load old rows id can known =
    let counts = can.counts id known in
    let few = can.few in
    let on = sum_by-le-sum_by (seats_on id) (λ (row : List (Option ℕ)). length row) rows
    (λ row. count_by-le-length (is_on (λ e. e == id)) row) in
    omega (arith, counts, few, on)

-- an empty seat of the partition p goes to the device that is chosen for it
module _ (now : Load) (old rows : List (List (Option ℕ))) (p n d : ℕ)
    (can : CanPlaceAll now old rows) (lt : p < length rows)
    (empty : slice_get (row_at rows p) n ≡ Some None)
    (chosen : IsChosen now (row_at rows p) (get_or (row_at old p) n None) d)
    (is_load : IsLoad (load_put now d)) where
  here : row_at (set rows p (set (row_at rows p) n (Some d))) p ≡ set (row_at rows p) n (Some d)
  here = get_or-set_same rows p (set (row_at rows p) n (Some d)) [] lt

  there : (q : ℕ) → q ≢ p → row_at (set rows p (set (row_at rows p) n (Some d))) q ≡ row_at rows q
  there q ne = get_or-set_other rows p q (set (row_at rows p) n (Some d)) [] ne

  count_more : (x : ℕ) → has_device x now.devices ≡ true → have_in (load_put now d) x ≡
      have_in now x + cond (d == x) 1 0
  count_more x known = put_more now can.is_load d x chosen.known known
      (fits now old rows d can chosen.known)

  rows_can : (q : ℕ) → q < length (set rows p (set (row_at rows p) n (Some d))) →
      CanPlace now.devices (row_at old q) (row_at (set rows p (set (row_at rows p) n (Some d))) q)
  rows_can q below = elim (cases_eq q p) [
    | inl same ↦ subst (λ k. CanPlace now.devices (row_at old k)
        (row_at (set rows p (set (row_at rows p) n (Some d))) k)) (sym same)
        (subst (λ r. CanPlace now.devices (row_at old p) r) (sym here)
        (can_next now (row_at old p) (row_at rows p) n d (can.can p lt) empty chosen))
    | inr other ↦ subst (λ r. CanPlace now.devices (row_at old q) r) (sym (there q other))
        (can.can q (omega (arith, below, length-set rows p (set (row_at rows p) n (Some d)))))
  ]

  same_sum : (f : List (Option ℕ) → ℕ) → sum_by f (set rows p (set (row_at rows p) n (Some d))) +
      f (row_at rows p) ≡ sum_by f rows + f (set (row_at rows p) n (Some d))
  same_sum f = sum_by-set f rows p (set (row_at rows p) n (Some d)) [] lt

  pub all_can : CanPlaceAll (load_put now d) old (set rows p (set (row_at rows p) n (Some d)))
  all_can = record {
    as_many = can.as_many ∙ sym (length-set rows p (set (row_at rows p) n (Some d)));
    can = rows_can;
    is_load = is_load;
    closed = open_want_fills now (load_put now d) (fills_put now d) can.closed;
    counts = λ x known. let was = can.counts x known in omega (
      arith,
      was,
      count_more x known,
      same_sum (seats_on x),
      seats_put (row_at rows p) n d x empty,
    );
    few = let few = can.few in omega (
      arith,
      few,
      same_sum (λ row. length row),
      length-set (row_at rows p) n (Some d),
    );
  }

  module _ (before : Load) (lifted : List (List (Option ℕ)))
      (so_far : SomePlaced before now old lifted rows) where
    known_now : (x : ℕ) → has_device x before.devices ≡ true → has_device x now.devices ≡ true
    known_now x known = subst (λ (ds : List Device). has_device x ds ≡ true)
        (sym so_far.fills.devices) known

    begun : (q : ℕ) → q < length lifted → RowBegun (load_put now d) (row_at old q)
        (row_at lifted q) (row_at (set rows p (set (row_at rows p) n (Some d))) q)
    begun q below = elim (cases_eq q p) [
      | inl same ↦ subst (λ k. RowBegun (load_put now d) (row_at old k) (row_at lifted k)
          (row_at (set rows p (set (row_at rows p) n (Some d))) k)) (sym same)
          (subst (λ r. RowBegun (load_put now d) (row_at old p) (row_at lifted p) r) (sym here)
          (begun_next now (row_at old p) (row_at rows p) n d (can.can p lt) empty chosen
          (row_at lifted p) (so_far.begun p (let same = so_far.as_many in omega (arith, same, lt)))
          can.closed))
      | inr other ↦ subst (λ r. RowBegun (load_put now d) (row_at old q) (row_at lifted q) r)
          (sym (there q other)) (begun_fills now (load_put now d) (fills_put now d) (row_at old q)
          (row_at lifted q) (row_at rows q) (so_far.begun q below))
    ]

    written : (x : ℕ) → drawn now x old lifted (set rows p (set (row_at rows p) n (Some d))) +
        drawn_in now.devices (has_free_in now (row_at rows p)) x (row_at old p) (row_at lifted p)
        (row_at rows p) ≡ drawn now x old lifted rows + drawn_in now.devices
        (has_free_in now (set (row_at rows p) n (Some d))) x (row_at old p) (row_at lifted p)
        (set (row_at rows p) n (Some d))
    written x = let as_many = so_far.as_many in let olds = can.as_many in
        drawn_written now x old lifted rows p (set (row_at rows p) n (Some d))
        (omega (arith, as_many, olds)) as_many (omega (arith, as_many, lt))

    -- no more takes room, or one more on the device, which had room
    all_drawn : (x : ℕ) → (drawn (load_put now d) x old lifted
        (set rows p (set (row_at rows p) n (Some d))) ≤ drawn now x old lifted rows) ⊎ IsRoomTaken
        now d x (drawn now x old lifted rows) (drawn (load_put now d) x old lifted
        (set rows p (set (row_at rows p) n (Some d))))
    all_drawn x =
        let w = written x in
        let less = drawn_shrinks now (load_put now d) (fills_put now d) x old lifted
        (set rows p (set (row_at rows p) n (Some d))) in
        elim (seat_drawn now (row_at old p) (row_at rows p) n d (can.can p lt) empty chosen
        (row_at lifted p) (so_far.begun p (let same = so_far.as_many in omega (arith, same, lt)))
        can.closed x) [
          | inl none ↦ inl (omega (arith, w, less, none))
          | inr taken ↦ inr (let one = taken.one in record {
            same = taken.same;
            room = taken.room;
            one = omega (arith, w, less, one);
          })
        ]

    all_within : (x : ℕ) → has_device x before.devices ≡ true → drawn (load_put now d) x old lifted
        (set rows p (set (row_at rows p) n (Some d))) ≤ want_in (load_put now d) x - have_in before
        x
    all_within x known =
        let want = want_fills now (load_put now d) (fills_put now d) x in
        let within = so_far.within_room x known in
        let put = so_far.put x known in
        elim (all_drawn x) [
          | inl none ↦ omega (arith, want, within, none)
          | inr taken ↦
              let room = subst (λ y. have_in now y < want_in now y) taken.same taken.room in
              let one = taken.one in
              omega (arith, want, put, room, one)
        ]

    all_put : (x : ℕ) → has_device x before.devices ≡ true → drawn (load_put now d) x old lifted
        (set rows p (set (row_at rows p) n (Some d))) + have_in before x ≤ have_in (load_put now d)
        x
    all_put x known =
        let more = count_more x (known_now x known) in
        let put = so_far.put x known in
        elim (all_drawn x) [
          | inl none ↦ omega (arith, more, put, none)
          | inr taken ↦
              let is : (d == x) ≡ true = eq-eqb d x taken.same in
              let more' = rw is at more in
              let one = taken.one in
              omega (arith, more', put, one)
        ]

    all_some : SomePlaced before (load_put now d) old lifted
        (set rows p (set (row_at rows p) n (Some d)))
    all_some = record {
      as_many = length-set rows p (set (row_at rows p) n (Some d)) ∙ so_far.as_many;
      begun = begun;
      within_room = all_within;
      put = all_put;
      fills = fills_trans before now (load_put now d) so_far.fills (fills_put now d);
    }

  pub all_keeps : KeepsPlaced now (load_put now d) old rows
      (set rows p (set (row_at rows p) n (Some d)))
  all_keeps before lifted so_far = all_some before lifted so_far

  -- of the partition one seat fewer is empty, and of others as many as were
  pub all_fewer : (q : ℕ) → count_by is_empty (row_at (set rows p (set (row_at rows p) n (Some d)))
      q) + cond (p == q) 1 0 ≤ count_by is_empty (row_at rows q)
  all_fewer q = elim (cases_eq p q) [
    | inl same ↦
        let is : (p == q) ≡ true = eq-eqb p q same in
        rw is (subst (λ k. count_by is_empty (row_at (set rows p (set (row_at rows p) n (Some d)))
        k) + 1 ≤ count_by is_empty (row_at rows k)) same
        (let less = empty_less now (row_at old p) (row_at rows p) n d (can.can p lt) empty chosen in
        let same_count = ap (count_by is_empty) here in omega (arith, less, same_count)))
    | inr other ↦
        let no : (p == q) ≡ false = ne_eqb p q other in
        let same_count = ap (count_by is_empty) (there q (λ e. other (sym e))) in
        rw no (omega (arith, same_count))
  ]

-- ---- a turn

-- The partitions that were gone through had their turn.
pub record TurnUpTo (kind : Turn) (done : List ℕ) (load now : Load)
    (old first rows : List (List (Option ℕ))) : Type 0 where
  pub as_many : length rows ≡ length first
  pub can : CanPlaceAll now old rows
  pub keeps : KeepsPlaced load now old first rows
  pub fewer : (q : ℕ) → q < length first → count_by is_empty (row_at rows q) ≤ count_by is_empty
      (row_at first q) - cond (is_among done q) (least_put kind 1) 0

pub turn_start : (kind : Turn) (order : List ℕ) (load : Load) (old first : List (List (Option ℕ))) →
    CanPlaceAll load old first → TurnUpTo kind (take 0 order) load load old first first
turn_start kind order load old first can = record {
  as_many = refl;
  can = can;
  keeps = λ before lifted so_far. so_far;
  fewer = λ q lt. omega arith;
}

least_one : (kind : Turn) → least_put kind 1 ≤ 1
least_one Homeless = omega arith
least_one Home = omega arith
least_one Rest = omega arith

one_fewer : (a b : Bool) (least now next first : ℕ) → least ≤ 1 → now ≤ first - cond a least 0 →
    next + cond b 1 0 ≤ now → next ≤ first - cond (a || b) least 0
one_fewer true b least now next first one h k = omega (arith, h, k)
one_fewer false true least now next first one h k = omega (arith, one, h, k)
one_fewer false false least now next first one h k = omega (arith, h, k)

-- a partition that waits has no empty seat in a turn of the rest
none_fewer : (kind : Turn) (a b : Bool) (now first : ℕ) → (kind ≡ Rest → b ≡ true → now ≡ 0) →
    now ≤ first - cond a (least_put kind 1) 0 → now ≤ first - cond (a || b) (least_put kind 1) 0
none_fewer kind true b now first none h = h
none_fewer kind false false now first none h = h
none_fewer Homeless false true now first none h = h
none_fewer Home false true now first none h = h
none_fewer Rest false true now first none h = omega (arith, none refl refl)

-- the next of an order puts an empty seat
turn_put : (kind : Turn) (n : ℕ) (order : List ℕ) (load now after : Load)
    (old first rows next : List (List (Option ℕ))) (replica : ℕ) → n < length order →
    get_or order n 0 < length rows →
    TurnUpTo kind (take n order) load now old first rows →
    slice_get (row_at rows (get_or order n 0)) replica ≡ Some None →
    IsSeatPut now after old rows next (get_or order n 0) replica →
    TurnUpTo kind (take (n + 1) order) load after old first next
turn_put kind n order load now after old first rows next replica lt below so_far empty put =
    let p = get_or order n 0 in
    let loaded : IsLoad (load_put now put.id) = subst IsLoad put.filled put.is_load in
    let all : TurnUpTo kind (take (n + 1) order) load (load_put now put.id) old first
    (set rows p (set (row_at rows p) replica (Some put.id))) = record {
      as_many = length-set rows p (set (row_at rows p) replica (Some put.id)) ∙ so_far.as_many;
      can = all_can now old rows p replica put.id so_far.can below empty put.chosen loaded;
      keeps = λ before lifted placed. all_keeps now old rows p replica put.id so_far.can below empty
          put.chosen loaded before lifted (so_far.keeps before lifted placed);
      fewer = λ q within. subst (λ b. count_by is_empty (row_at
          (set rows p (set (row_at rows p) replica (Some put.id))) q) ≤ count_by is_empty
          (row_at first q) - cond b (least_put kind 1) 0) (sym (among_more order n q lt))
          (one_fewer (is_among (take n order) q) (p == q) _ _ _ _ (least_one kind)
          (so_far.fewer q within)
          (all_fewer now old rows p replica put.id so_far.can below empty put.chosen loaded q));
    } in
    subst (λ rs. TurnUpTo kind (take (n + 1) order) load after old first rs) (sym put.written)
    (subst (λ l. TurnUpTo kind (take (n + 1) order) load l old first
    (set rows p (set (row_at rows p) replica (Some put.id)))) (sym put.filled) all)

-- or it waits
turn_waits : (kind : Turn) (n : ℕ) (order : List ℕ) (load now : Load)
    (old first rows : List (List (Option ℕ))) → n < length order →
    TurnUpTo kind (take n order) load now old first rows →
    (kind ≡ Rest → count_by is_empty (row_at rows (get_or order n 0)) ≡ 0) →
    TurnUpTo kind (take (n + 1) order) load now old first rows
turn_waits kind n order load now old first rows lt so_far full = record {
  as_many = so_far.as_many;
  can = so_far.can;
  keeps = so_far.keeps;
  fewer = λ q within. subst (λ b. count_by is_empty (row_at rows q) ≤ count_by is_empty
      (row_at first q) - cond b (least_put kind 1) 0) (sym (among_more order n q lt))
      (none_fewer kind (is_among (take n order) q) (get_or order n 0 == q) _ _
      (λ rest same. subst (λ k. count_by is_empty (row_at rows k) ≡ 0)
      (eqb-true (get_or order n 0) q same) (full rest)) (so_far.fewer q within));
}

pub turn_step : (kind : Turn) (n : ℕ) (order : List ℕ) (load now after : Load)
    (old first rows next : List (List (Option ℕ))) → n < length order →
    get_or order n 0 < length rows →
    TurnUpTo kind (take n order) load now old first rows →
    IsTurnOf kind now after old rows next (get_or order n 0) →
    TurnUpTo kind (take (n + 1) order) load after old first next
turn_step kind n order load now after old first rows next lt below so_far (Puts replica empty put) =
    turn_put kind n order load now after old first rows next replica lt below so_far empty put
turn_step kind n order load now after old first rows next lt below so_far
    (Waits full same_load same_rows) =
    subst (λ rs. TurnUpTo kind (take (n + 1) order) load after old first rs) (sym same_rows)
    (subst (λ l. TurnUpTo kind (take (n + 1) order) load l old first rows) (sym same_load)
    (turn_waits kind n order load now old first rows lt so_far full))

pub turn_end : (kind : Turn) (n : ℕ) (homes : List Bool) (order : List ℕ) (load now : Load)
    (old first rows : List (List (Option ℕ))) → AreWaiting homes order first → length order ≤ n →
    TurnUpTo kind (take n order) load now old first rows →
    AreTurns kind 1 load now old first rows
turn_end kind n homes order load now old first rows waits ended so_far =
    let whole : take n order ≡ order = take_all n order ended in
    record {
      as_many = so_far.as_many;
      can = so_far.can;
      keeps = so_far.keeps;
      fewer = λ q lt. at_end (is_among order q) (least_put kind 1) _ _ (waits.full q lt)
          (subst (λ done. count_by is_empty (row_at rows q) ≤ count_by is_empty (row_at first q) -
          cond (is_among done q) (least_put kind 1) 0) whole (so_far.fewer q lt));
    }
  where
    at_end : (among : Bool) (least now first : ℕ) → (among ≡ false → first ≡ 0) →
        now ≤ first - cond among least 0 → now ≤ first - least
    at_end true least now first none h = h
    at_end false least now first none h = omega (arith, none refl, h)

-- ---- all turns

none_put : (kind : Turn) → least_put kind 0 ≡ 0
none_put Homeless = refl
none_put Home = refl
none_put Rest = refl

more_put : (kind : Turn) (n : ℕ) → least_put kind (n + 1) ≡ least_put kind n + least_put kind 1
more_put Homeless n = omega arith
more_put Home n = omega arith
more_put Rest n = omega arith

pub turns_start : (kind : Turn) (load : Load) (old rows : List (List (Option ℕ))) →
    CanPlaceAll load old rows → AreTurns kind 0 load load old rows rows
turns_start kind load old rows can = record {
  as_many = refl;
  can = can;
  keeps = λ before lifted so_far. so_far;
  fewer = λ q lt. omega (arith, none_put kind);
}

pub turns_more : (kind : Turn) (n : ℕ) (load now after : Load)
    (old first rows next : List (List (Option ℕ))) → AreTurns kind n load now old first rows →
    AreTurns kind 1 now after old rows next → AreTurns kind (n + 1) load after old first next
turns_more kind n load now after old first rows next so_far turn = record {
  as_many = turn.as_many ∙ so_far.as_many;
  can = turn.can;
  keeps = λ before lifted placed. turn.keeps before lifted (so_far.keeps before lifted placed);
  fewer = λ q lt.
      let as_many = so_far.as_many in
      let less = turn.fewer q (omega (arith, lt, as_many)) in
      let was = so_far.fewer q lt in
      omega (arith, less, was, more_put kind n);
}

-- what has no empty seat has none later
pub waiting_later : (kind : Turn) (n : ℕ) (load now : Load) (homes : List Bool) (order : List ℕ)
    (old first rows : List (List (Option ℕ))) → AreTurns kind n load now old first rows →
    AreWaiting homes order first → AreWaiting homes order rows
waiting_later kind n load now homes order old first rows turns waits = record {
  told = waits.told ∙ sym turns.as_many;
  below = subst (λ (count : ℕ). All (λ p. p < count) order) (sym turns.as_many) waits.below;
  full = λ q lt none.
      let as_many = turns.as_many in
      let within : q < length first = omega (arith, lt, as_many) in
      let was = waits.full q within none in
      let less = turns.fewer q within in
      omega (arith, was, less);
}

none_placed : (load : Load) (old lifted : List (List (Option ℕ))) → CanPlaceAll load old lifted →
    SomePlaced load load old lifted lifted
none_placed load old lifted can = record {
  as_many = refl;
  begun = λ p lt. record {
    as_many = refl;
    alone = (can.can p lt).alone;
    kept = λ replica id at. at;
    placed = λ replica id up at. absurd (cc (up, at));
  };
  within_room = λ id known. rw (drawn_none load id old lifted) (omega arith);
  put = λ id known. rw (drawn_none load id old lifted) (omega arith);
  fills = fills_self load;
}

-- a partition of which no seat is empty has all lifted seats put
row_end : (now : Load) (old lifted row : List (Option ℕ)) → RowBegun now old lifted row →
    CanPlace now.devices old row → count_by is_empty row ≡ 0 → RowSeated now old lifted row
row_end now old lifted row begun can full = record {
  as_many = begun.as_many;
  kept = begun.kept;
  placed = λ replica up. elim (seat_cases row replica (let within =
      slice_get_within lifted replica None up in let same = begun.as_many in
      omega (arith, within, same))) [
        | inl empty ↦ absurd (let some = some_empty row replica empty in omega (arith, some, full))
        | inr seat ↦ begun.placed replica seat.0 up seat.1
      ];
  distinct = can.distinct;
  known = can.known;
}

-- turns of those that keep no home, of those that do, and of the rest put all seats
pub all_end : (most : ℕ) (before one two after : Load)
    (old lifted first second rows : List (List (Option ℕ))) → CanPlaceAll before old lifted →
    ((q : ℕ) → q < length lifted → count_by is_empty (row_at lifted q) ≤ most) →
    AreTurns Homeless most before one old lifted first → AreTurns Home 2 one two old first second →
    AreTurns Rest most two after old second rows → AllPlaced before after old lifted rows
all_end most before one two after old lifted first second rows can empty homeless home rest =
    let some : SomePlaced before after old lifted rows = rest.keeps before lifted
    (home.keeps before lifted (homeless.keeps before lifted (none_placed before old lifted can))) in
    record {
      as_many = some.as_many;
      seated = λ p lt. row_end after (row_at old p) (row_at lifted p) (row_at rows p)
          (some.begun p lt) (rest.can.can p (let same = some.as_many in omega (arith, lt, same)))
          (let many = homeless.as_many in let more = home.as_many in
          let a = homeless.fewer p lt in let b = home.fewer p (omega (arith, lt, many)) in
          let c = rest.fewer p (omega (arith, lt, many, more)) in let most = empty p lt in
          omega (arith, a, b, c, most));
      within_room = some.within_room;
      counts = λ id known.
          let was = can.counts id known in
          let is = rest.can.counts id (subst (λ (ds : List Device). has_device id ds ≡ true)
          (sym some.fills.devices) known) in
          omega (arith, was, is);
      fills = some.fills;
    }
