-- A rebalance by its seed.
use Rattle.std.proofs.Common.{◌≡◌, ◌∙◌, ℕ, List, Option, ap, sym, true, false}
use Rattle.std.specs.Prelude.{if◌then◌else◌}
use Rattle.std.specs.List.{range_with_len}
use Rattle.rand_pcg.specs.Lcg.{Lcg}
use Rattle.ring_model.specs.Ring.{RingRecord, partition_count}
use Rattle.ring_share.specs.Crowd.{rows_of}
use Rattle.ring_share.proofs.Determined.{same_wants}
use Rattle.ring_room.specs.Load.{Load}
use Rattle.ring_place.specs.Made.{Gathering, Placing, all_placed, left_of, order_of}
use Rattle.ring_deal.specs.Draws.{draws_of}
use Rattle.ring_place.specs.Made.{dealt_rows, is_dealt, is_settled, put_rows, placed_after, rebalanced_rows}
use Rattle.ring_deal.specs.Draws.{shuffled}
use Rattle.ring_place.specs.Seeded.{IsSeeded, rebalanced}

pub seeded_rows : (ring : RingRecord) (wanted : List ℕ) (hour seed : ℕ) (first second items : List ℕ)
    (draws from : Lcg) (count : ℕ) (load : Load) (seats old new : List (List (Option ℕ)))
    → new ≡ (all_placed second old load seats draws).rows
    → old ≡ rows_of ring → second ≡ items → first ≡ items
    → ◌≡◌ {A = List ℕ × Lcg} (items, draws) (shuffled (range_with_len 0 count) from) → from ≡ draws_of seed
    → count ≡ partition_count ring
    → ◌≡◌ {A = Gathering} (record { load = load; rows = seats }) (left_of ring wanted hour first)
    → new ≡ put_rows ring wanted hour seed
seeded_rows ring wanted hour seed first second items draws from count load seats old new placed olds is also
    drawn begins counts left =
    let order : ◌≡◌ {A = List ℕ × Lcg} (items, draws) (order_of ring seed) =
    drawn ∙ ap (λ d. shuffled (range_with_len 0 count) d) begins
    ∙ ap (λ (n : ℕ). shuffled (range_with_len 0 n) (draws_of seed)) counts in
    placed ∙ ap (λ (p : Placing). p.rows) (ap (λ o. all_placed o old load seats draws) is
    ∙ ap (λ o. all_placed items o load seats draws) olds
    ∙ ap (λ (g : Gathering). all_placed items (rows_of ring) g.load g.rows draws)
    (left ∙ ap (left_of ring wanted hour) also)
    ∙ ap (λ (p : List ℕ × Lcg). placed_after ring p (left_of ring wanted hour p.0)) order)

-- what is dealt at once, and what isn't
pub rebalanced_dealt : (ring : RingRecord) (wanted : List ℕ) (hour seed : ℕ) → is_dealt ring wanted ≡
    true → dealt_rows ring wanted seed ≡ rebalanced_rows ring wanted hour seed
rebalanced_dealt ring wanted hour seed is = sym (ap (λ b. if b then dealt_rows ring wanted seed else
    (if is_settled ring wanted then rows_of ring else put_rows ring wanted hour seed)) is)

pub rebalanced_moved : (ring : RingRecord) (wanted : List ℕ) (hour seed : ℕ) → is_dealt ring wanted ≡
    false → is_settled ring wanted ≡ false → put_rows ring wanted hour seed ≡ rebalanced_rows ring
    wanted hour seed
rebalanced_moved ring wanted hour seed is moves =
    sym (ap (λ b. if b then dealt_rows ring wanted seed else (if is_settled ring wanted then
    rows_of ring else put_rows ring wanted hour seed)) is
    ∙ ap (λ b. if b then rows_of ring else put_rows ring wanted hour seed) moves)

pub rebalanced_settled : (ring : RingRecord) (wanted : List ℕ) (hour seed : ℕ) → is_dealt ring wanted ≡
    false → is_settled ring wanted ≡ true → rows_of ring ≡ rebalanced_rows ring wanted hour seed
rebalanced_settled ring wanted hour seed is rests =
    sym (ap (λ b. if b then dealt_rows ring wanted seed else (if is_settled ring wanted then
    rows_of ring else put_rows ring wanted hour seed)) is
    ∙ ap (λ b. if b then rows_of ring else put_rows ring wanted hour seed) rests)

-- a seed gives one ring
pub one_seeded : (old one other : RingRecord) (hour seed : ℕ) → IsSeeded old hour seed one →
    IsSeeded old hour seed other → one ≡ other
one_seeded old one other hour seed a b = a.is
    ∙ ap (λ wanted. rebalanced old wanted hour seed) (same_wants old a.wanted b.wanted a.are b.are)
    ∙ sym b.is
