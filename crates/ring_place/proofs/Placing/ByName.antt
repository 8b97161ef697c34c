-- What is put, by name.
use Rattle.std.proofs.Common.{◌≡◌, ◌∙◌, ℕ, Bool, true, cond, List, Option, Some, ap, set, sym}
use Rattle.rand_pcg.specs.Lcg.{Lcg}
use Rattle.rand_pcg.specs.Pcg.{pcg32}
use Rattle.ring_room.specs.Load.{Load, load_put}
use Rattle.ring_room.specs.Places.{id_at}
use Rattle.ring_place.specs.declared.place.Turn.{Turn}
use Rattle.ring_place.specs.declared.place.Turn.TheVariants.{Homeless, Home, Rest}
use Rattle.ring_room.specs.declared.cards.Taken.{Taken}
use Rattle.ring_place.specs.Made.{Cards, Placing, dealt, first_empty, placed_in, put_by, put_first}
use Rattle.ring_place.specs.Made.{put_home, put_in, put_on, put_seat, put_taken, row_at, taken_for}
use Rattle.ring_place.specs.Made.{Homes, all_kept, all_placed, asking, deck_of, most_empty, put_all}
use Rattle.ring_place.specs.Made.{turns, waiting}

-- ---- a seat

pub seat_put : (old : List (List (Option ℕ))) (p n : ℕ) (now : Placing) (load : Load)
    (rows : List (List (Option ℕ))) (deck drawn : Cards) (draw : ℕ) (taken : Taken)
    → draw ≡ (pcg32 now.deck.draws).0
    → drawn ≡ record now.deck { draws = (pcg32 now.deck.draws).1 }
    → taken ≡ taken_for now.load (row_at old p) (row_at now.rows p) n drawn.piles draw
    → load ≡ load_put now.load (id_at now.load.devices taken.place)
    → rows ≡ set now.rows p (set (row_at now.rows p) n (Some (id_at now.load.devices taken.place)))
    → deck ≡ record drawn { piles = dealt drawn.piles taken.card }
    → ◌≡◌ {A = Placing} (record { load = load; rows = rows; deck = deck }) (put_seat old p n now)
seat_put old p n now load rows deck drawn draw taken told left chosen puts sets deals =
    ap (λ l. record { load = l; rows = rows; deck = deck }) puts
    ∙ ap (λ r. record {
      load = load_put now.load (id_at now.load.devices taken.place);
      rows = r;
      deck = deck;
    }) sets
    ∙ ap (λ d. put_on p n now taken.place d) (deals
    ∙ ap (λ (d : Cards). record d { piles = dealt d.piles taken.card }) left)
    ∙ ap (put_taken p n now) (chosen
    ∙ ap (λ (d : Cards). taken_for now.load (row_at old p) (row_at now.rows p) n d.piles draw) left
    ∙ ap (taken_for now.load (row_at old p) (row_at now.rows p) n now.deck.piles) told)

-- ---- a turn

pub first_put : (kind : Turn) (home : Bool) (old : List (List (Option ℕ))) (p replica : ℕ)
    (now next : Placing) (row : List (Option ℕ)) → row ≡ row_at now.rows p →
    Some replica ≡ first_empty row → next ≡ put_in kind home old p replica now →
    next ≡ put_first kind home old p now
first_put kind home old p replica now next row is some put = put ∙ ap (put_by kind home old p now)
    (some ∙ ap first_empty is)

pub kept_put : (home : Bool) (old : List (List (Option ℕ))) (p n : ℕ) (now next : Placing) →
    home ≡ true → next ≡ put_home old p n now → next ≡ put_in Home home old p n now
kept_put home old p n now next is put = put ∙ ap (λ b. cond b (put_home old p n now) now) (sym is)

-- ---- all turns

pub turns_placed : (order : List ℕ) (homes : List Bool) (old : List (List (Option ℕ)))
    (most count : ℕ) (now one two three : Placing) → most ≡ count →
    one ≡ turns Homeless homes order old most now → two ≡ turns Home homes order old 2 one →
    three ≡ turns Rest homes order old most two → three ≡ placed_in order homes old count now
turns_placed order homes old most count now one two three same first second third =
    third ∙ ap (turns Rest homes order old most) (second ∙ ap (turns Home homes order old 2) first)
    ∙ ap (λ m. placed_in order homes old m now) same

-- ---- all partitions

pub placed_by : (order w1 w4 a2 : List ℕ) (h3 : List Bool) (old rows : List (List (Option ℕ)))
    (load left : Load) (draws : Lcg) (deck : Cards) (next : Placing) → w1 ≡ waiting load order rows →
    w4 ≡ waiting load order rows → a2 ≡ asking load w1 old rows
    → ◌≡◌ {A = Homes} (record { load = left; kept = h3 }) (all_kept a2 old load rows)
    → deck ≡ deck_of left draws
    → next ≡ placed_in w4 h3 old (most_empty rows) (record { load = load; rows = rows; deck = deck })
    → next ≡ all_placed order old load rows draws
placed_by order w1 w4 a2 h3 old rows load left draws deck next first fourth asks kept made is =
    is ∙ ap (λ d. placed_in w4 h3 old (most_empty rows) (record {
      load = load;
      rows = rows;
      deck = d;
    })) made
    ∙ ap (λ (h : Homes). put_all w4 old load rows h draws) kept
    ∙ ap (λ a. put_all w4 old load rows (all_kept a old load rows) draws)
    (asks ∙ ap (λ w. asking load w old rows) first)
    ∙ ap (λ w. put_all w old load rows (all_kept (asking load (waiting load order rows) old rows) old load
    rows) draws) fourth
