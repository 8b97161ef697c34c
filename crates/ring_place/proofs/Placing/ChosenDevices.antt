-- Where a lifted seat goes.
use Rattle.std.proofs.Common.{◌≡◌, ◌≢◌, ℕ, true, false}
use Rattle.std.proofs.Common.{List, Option, Some}
use Rattle.std.proofs.Common.{None, IfSome, refl, sym, ap, ◌∙◌, inl}
use Rattle.std.proofs.lemmas.Bool.{eqb-true}
use Rattle.std.proofs.lemmas.Option.{same_Some}
use Rattle.ring_model.specs.Ring.{has_device, has_present}
use Rattle.ring_share.specs.Crowd.{is_less, is_outside}
use Rattle.ring_share.specs.Room.{has_open}
use Rattle.ring_room.specs.Load.{Load, IsLeast, crowd_in, is_free_in}
use Rattle.ring_place.specs.Inner.Placing.{IsChosen, OwnWins}
use Rattle.ring_room.proofs.Searching.BestSoFar.{not_less_trans}
use Rattle.ring_place.proofs.Placing.Filling.{free_outside, free_room, room_open}
use Rattle.ring_room.proofs.Searching.LessCrowded.{open_known}

-- ---- the own device

pub least_known : (load : Load) (row : List (Option ℕ)) (id : ℕ) → IsLeast load row id →
    has_device id load.devices ≡ true
least_known load row id is = open_known load.devices id
    (room_open load id (free_room load row id is.free))

pub own_not_free : (load : Load) (row : List (Option ℕ)) (own : Option ℕ) (o best : ℕ) →
    own ≡ Some o → is_free_in load row o ≡ false → OwnWins load row own best
own_not_free load row own o best is shut from at free ne = absurd (let same : o ≡ from =
    same_Some o from (sym is ∙ at) in let shut' = ap (is_free_in load row) (sym same) ∙ shut in
    cc (free, shut'))

pub own_crowded : (load : Load) (row : List (Option ℕ)) (own : Option ℕ) (o best : ℕ) →
    own ≡ Some o → is_less (crowd_in load row best) (crowd_in load row o) ≡ true →
    OwnWins load row own best
own_crowded load row own o best is less from at free ne = let same : o ≡ from =
    same_Some o from (sym is ∙ at) in
    ap (λ x. is_less (crowd_in load row best) (crowd_in load row x)) (sym same) ∙ less

pub own_is_least : (load : Load) (row : List (Option ℕ)) (o best : ℕ) → IsLeast load row best →
    is_free_in load row o ≡ true → is_less (crowd_in load row best) (crowd_in load row o) ≡ false →
    IsLeast load row o
own_is_least load row o best is free no_less = record {
  free = free;
  least = λ other passes. not_less_trans (crowd_in load row other) (crowd_in load row best)
      (crowd_in load row o) (is.least other passes) no_less;
}

-- ---- what is chosen

always : (P : ℕ → Type 0) (own : Option ℕ) → ((x : ℕ) → own ≡ Some x → P x) → IfSome own P
always P None all = tt
always P (Some x) all = all x refl

pub chosen_least : (load : Load) (row : List (Option ℕ)) (own : Option ℕ) (id : ℕ) →
    IsLeast load row id → OwnWins load row own id → IsChosen load row own id
chosen_least load row own id is wins = record {
  known = least_known load row id is;
  outside = free_outside load row id is.free;
  may_take = inl (room_open load id (free_room load row id is.free));
  least = is.least;
  own_wins = wins;
  free = λ other free. is.free;
  stays = always (λ from. has_present from load.devices ≡ true → id ≢ from →
      is_free_in load row id ≡ true) own (λ x at present ne. is.free);
}

none_free : (load : Load) (row : List (Option ℕ)) →
    ((id : ℕ) → is_free_in load row id ≡ false) → (id : ℕ) → is_free_in load row id ≡ true → ⊥
none_free load row none id free = let shut = none id in cc (shut, free)

-- and its own is gone: to an open device
pub chosen_open : (load : Load) (row : List (Option ℕ)) (own : Option ℕ) (id : ℕ) →
    ((x : ℕ) → is_free_in load row x ≡ false)
    → ((o : ℕ) → own ≡ Some o → has_present o load.devices ≡ false) →
    has_open id load.devices ≡ true → is_outside row id ≡ true → IsChosen load row own id
chosen_open load row own id none gone opens outside = record {
  known = open_known load.devices id opens;
  outside = eqb-true _ 0 outside;
  may_take = inl opens;
  least = λ other free. absurd (none_free load row none other free);
  own_wins = λ from at free ne. absurd (none_free load row none from free);
  free = λ other free. absurd (none_free load row none other free);
  stays = always (λ from. has_present from load.devices ≡ true → id ≢ from →
      is_free_in load row id ≡ true) own (λ x at there ne. absurd (let no = gone x at in
      cc (there, no)));
}
