-- A seat that is settled stays so, as further seats of its partition go to least crowded free
-- devices.
use Rattle.std.proofs.Common.{◌≡◌, ◌≢◌, ◌==◌, ℕ, ◌+◌, ◌<◌, ◌≤◌, Bool, true, false, cond, List}
use Rattle.std.proofs.Common.{length, Option, Some, None, refl, sym, ◌∙◌, ap, subst, inl, inr, ◌⊎◌}
use Rattle.std.proofs.Common.{arith, set, get_or, slice_get, count_by}
use Rattle.std.proofs.lemmas.List.{set_comm}
use Rattle.std.proofs.lemmas.List.Sums.{sum_by-set}
use Rattle.std.proofs.lemmas.Option.{slice_get_within, get_or_from_slice_get}
use Rattle.std.proofs.lemmas.Bool.{cases_Bool}
use Rattle.std.proofs.lemmas.Bool.Decides.{nat_tests}
use Rattle.ring_share.specs.Crowd.{Tiers, is_on, seats_on, crowd, others, is_less}
use Rattle.ring_place.proofs.Rows.OneWrite.{get_set_other, get_set_same, set_back}

-- How crowded a device is: its region, its zone, its server.
abbrev Crowd : Type 0
Crowd = ℕ × ℕ × ℕ

-- "Are alike" for one tier.
pub record IsSame (same : ℕ → ℕ → Bool) : Type 0 where
  pub symm : (a b : ℕ) → same a b ≡ same b a
  pub trans : (a b c : ℕ) → same a b ≡ true → same b c ≡ true → same a c ≡ true

-- A server lies in one zone, and a zone in one region.
pub record AreTiers (tiers : Tiers) : Type 0 where
  pub region : IsSame tiers.region
  pub zone : IsSame tiers.zone
  pub server : IsSame tiers.server
  pub zone_in_region : (a b : ℕ) → tiers.zone a b ≡ true → tiers.region a b ≡ true
  pub server_in_zone : (a b : ℕ) → tiers.server a b ≡ true → tiers.zone a b ≡ true

-- For this seat no device that passes is less crowded than its own.
abbrev pub IsSettledBy : Tiers → (ℕ → Bool) → List (Option ℕ) → ℕ → Type 0
IsSettledBy tiers free row seat = (e : ℕ) → slice_get row seat ≡ Some (Some e) →
    (d : ℕ) → free d ≡ true → is_less (crowd tiers (others row seat) d)
    (crowd tiers (others row seat) e) ≡ false

-- b is no more crowded than a
pub record IsNoLess (a b : Crowd) : Type 0 where
  pub region : b.0 ≤ a.0
  pub zone : a.0 ≡ b.0 → b.1 ≤ a.1
  pub server : a.0 ≡ b.0 → a.1 ≡ b.1 → b.2 ≤ a.2

pub no_less : (a b : Crowd) → is_less a b ≡ false → IsNoLess a b
no_less a b h = record {
  region = grind (arith, nat_tests);
  zone = λ e. grind (arith, nat_tests);
  server = λ e f. grind (arith, nat_tests);
}

pub not_less : (a b : Crowd) → IsNoLess a b → is_less a b ≡ false
not_less a b h = grind (arith, nat_tests)

-- one more seat at each tier where s has 1
pub plus : Crowd → Crowd → Crowd
plus a s = (a.0 + s.0, a.1 + s.1, a.2 + s.2)

pub record IsWithin (s t : Crowd) : Type 0 where
  pub region : s.0 ≤ t.0
  pub zone : s.1 ≤ t.1
  pub server : s.2 ≤ t.2

pub no_less_trans : (a b c : Crowd) → IsNoLess a b → IsNoLess b c → IsNoLess a c
no_less_trans a b c h k = record {
  region = omega arith;
  zone = λ e. omega arith;
  server =
      λ e f. omega arith;
}

pub no_less_plus : (a b s t : Crowd) → IsNoLess a b → IsWithin s t → IsNoLess (plus a t) (plus b s)
unfolding plus
no_less_plus a b s t h w = record {
  region = omega arith;
  zone = λ e. omega arith;
  server =
      λ e f. omega arith;
}

-- which tiers two devices share
pub shared : Tiers → ℕ → ℕ → Crowd
shared t d e = (cond (t.region d e) 1 0, cond (t.zone d e) 1 0, cond (t.server d e) 1 0)

bool_ext : (a b : Bool) → (a ≡ true → b ≡ true) → (b ≡ true → a ≡ true) → a ≡ b
bool_ext true b h k = sym (h refl)
bool_ext false true h k = k refl
bool_ext false false h k = refl

not_true : (b : Bool) → (b ≡ true → ⊥) → b ≡ false
not_true true h = absurd (h refl)
not_true false h = refl

-- alike devices are alike to a third
alike : (same : ℕ → ℕ → Bool) → IsSame same → (d e f : ℕ) → same e f ≡ true → same d f ≡ same d e
alike same s d e f h = bool_ext (same d f) (same d e) (λ k. s.trans d f e k (s.symm f e ∙ h))
    (λ k. s.trans d e f k h)

pub record ShareAlike (t : Tiers) (d e f : ℕ) : Type 0 where
  pub region : t.region d f ≡ t.region d e
  pub zone : t.zone d f ≡ t.zone d e
  pub server : t.server d f ≡ t.server d e

shared_same : (t : Tiers) (d e f : ℕ) → ShareAlike t d e f → shared t d f ≡ shared t d e
unfolding shared
shared_same t d e f h = rw (h.region, h.zone, h.server)

one : (b c : Bool) → (b ≡ true → c ≡ true) → cond b 1 0 ≤ cond c 1 0
one true c h = rw (h refl) (omega arith)
one false c h = omega arith

-- Of three devices, f shares no more with e than with d, or else d shares with f just what it
-- shares with e.
share_cases : (t : Tiers) → AreTiers t → (d e f : ℕ) → IsWithin (shared t e f) (shared t d f) ⊎
    (shared t d f ≡ shared t d e)
unfolding shared
share_cases t laws d e f =
    elim (cases_Bool (t.server e f)) [
      | inl s ↦ inr (shared_same t d e f (record {
        region = alike t.region laws.region d e f (laws.zone_in_region e f (laws.server_in_zone e f
            s));
        zone = alike t.zone laws.zone d e f (laws.server_in_zone e f s);
        server = alike t.server laws.server d e f s;
      }))
      | inr ns ↦ elim (cases_Bool (t.zone e f)) [
        | inl z ↦ elim (cases_Bool (t.zone d f)) [
          | inl zdf ↦ inl (record {
            region = one _ _ (λ _. laws.zone_in_region d f zdf);
            zone =
                one _ _ (λ _. zdf);
            server = rw ns (omega arith);
          })
          | inr nzdf ↦ inr (shared_same t d e f (record {
            region = alike t.region laws.region d e f (laws.zone_in_region e f z);
            zone = alike t.zone laws.zone d e f z;
            server = not_true _ (λ s. absurd (cc (laws.server_in_zone d f s))) ∙ sym
                (not_true _ (λ s. absurd (cc (
                  laws.server_in_zone d e s,
                  alike t.zone laws.zone d e f z,
                ))));
          }))
        ]
        | inr nz ↦ elim (cases_Bool (t.region d f)) [
          | inl rdf ↦ inl (record {
            region = one _ _ (λ _. rdf);
            zone = rw nz (omega arith);
            server = rw ns (omega arith);
          })
          | inr nrdf ↦ elim (cases_Bool (t.region e f)) [
            | inl ref ↦ inr (shared_same t d e f (record {
              region = alike t.region laws.region d e f ref;
              zone = not_true _ (λ z. absurd (cc (laws.zone_in_region d f z))) ∙ sym
                  (not_true _ (λ z. absurd (cc (
                    laws.zone_in_region d e z,
                    alike t.region laws.region d e f ref,
                  ))));
              server = not_true _ (λ s. absurd
                  (cc (laws.zone_in_region d f (laws.server_in_zone d f s)))) ∙ sym
                  (not_true _ (λ s. absurd (cc (
                    laws.zone_in_region d e (laws.server_in_zone d e s),
                    alike t.region laws.region d e f ref,
                  ))));
            }))
            | inr nref ↦ inl (record {
              region = rw nref (omega arith);
              zone = rw nz (omega arith);
              server = rw ns (omega arith);
            })
          ]
        ]
      ]
    ]

-- a seat that is placed adds one where it stands
pub count_put : (p : ℕ → Bool) (row : List (Option ℕ)) (j f : ℕ) → slice_get row j ≡ Some None →
    count_by (is_on p) (set row j (Some f)) ≡ count_by (is_on p) row + cond (p f) 1 0
count_put p row j f h =
    let within : j < length row = slice_get_within row j None h in
    let at : get_or row j None ≡ None = get_or_from_slice_get row j None None h in
    let e = sum_by-set (λ x. cond (is_on p x) 1 0) row j (Some f) None within in
    let e' = rw at at e in
    omega (arith, e')

pub crowd_put : (t : Tiers) (row : List (Option ℕ)) (j f d : ℕ) → slice_get row j ≡ Some None →
    crowd t (set row j (Some f)) d ≡ plus (crowd t row d) (shared t d f)
unfolding plus shared
crowd_put t row j f d h = rw (
  count_put (t.region d) row j f h,
  count_put (t.zone d) row j f h,
  count_put (t.server d) row j f h,
)

pub seats_put : (row : List (Option ℕ)) (j f d : ℕ) → slice_get row j ≡ Some None →
    seats_on d (set row j (Some f)) ≡ seats_on d row + cond (f == d) 1 0
seats_put row j f d h = count_put (λ e. e == d) row j f h

symm_shared : (t : Tiers) → AreTiers t → (d e : ℕ) → shared t d e ≡ shared t e d
unfolding shared
symm_shared t laws d e = rw (laws.region.symm d e, laws.zone.symm d e, laws.server.symm d e)

-- The step on counts alone: of e, settled, and f, the next seat placed, d is no less crowded than e
-- with f counted.
step : (t : Tiers) → AreTiers t → (c : ℕ → Crowd) (d e f : ℕ) →
    IsNoLess (c d) (c e) → IsNoLess (c f) (c e) → IsNoLess (plus (c d) (shared t d e))
    (plus (c f) (shared t f e)) →
    IsNoLess (plus (c d) (shared t d f)) (plus (c e) (shared t e f))
step t laws c d e f de fe df =
    elim (share_cases t laws d e f) [
      | inl within ↦ no_less_plus (c d) (c e) (shared t e f) (shared t d f) de within
      | inr same ↦ rw (same, symm_shared t laws e f) (no_less_trans _ (plus (c f) (shared t f e)) _
          df (no_less_plus (c f) (c e) (shared t f e) (shared t f e) fe (record {
            region =
                omega arith;
            zone = omega arith;
            server = omega arith;
          })))
    ]

others_put : (row : List (Option ℕ)) (k j f : ℕ) → k ≢ j → others (set row j (Some f)) k ≡ set
    (others row k) j (Some f)
others_put row k j f ne = sym (set_comm row k j None (Some f) ne)

others_empty : (row : List (Option ℕ)) (k j : ℕ) → k ≢ j → slice_get row j ≡ Some None →
    slice_get (others row k) j ≡ Some None
others_empty row k j ne h = get_set_other row k j None ne ∙ h

pub row_again : (row : List (Option ℕ)) (k e : ℕ) → slice_get row k ≡ Some (Some e) →
    set (others row k) k (Some e) ≡ row
row_again row k e h = set_back row k (Some e) None h

pub others_at : (row : List (Option ℕ)) (k e : ℕ) → slice_get row k ≡ Some (Some e) →
    slice_get (others row k) k ≡ Some None
others_at row k e h = get_set_same row k None (slice_get_within row k (Some e) h)

-- A settled seat stays settled as another of its partition goes to a least crowded free device, and
-- fewer are free.
pub settled_step : (t : Tiers) → AreTiers t → (free free' : ℕ → Bool) → ((d : ℕ) → free' d ≡ true →
    free d ≡ true) →
    (row : List (Option ℕ)) (k j f : ℕ) → k ≢ j → slice_get row j ≡ Some None →
    ((d : ℕ) → free d ≡ true → free f ≡ true) → ((d : ℕ) → free d ≡ true →
    is_less (crowd t row d) (crowd t row f) ≡ false) →
    IsSettledBy t free row k → IsSettledBy t free' (set row j (Some f)) k
settled_step t laws free free' less row k j f ne empty also least settled e at d passes =
    let was : slice_get row k ≡ Some (Some e) =
    sym (get_set_other row j k (Some f) (λ q. ne (sym q))) ∙ at in
    let c : ℕ → Crowd = λ x. crowd t (others row k) x in
    let df : free d ≡ true = less d passes in
    let with_e : (x : ℕ) → crowd t row x ≡ plus (c x) (shared t x e) =
    λ x. sym (ap (λ r. crowd t r x) (row_again row k e was)) ∙ crowd_put t (others row k) k e x
    (others_at row k e was) in
    let with_f : (x : ℕ) → crowd t (others (set row j (Some f)) k) x ≡ plus (c x) (shared t x f) =
    λ x. ap (λ r. crowd t r x) (others_put row k j f ne) ∙ crowd_put t (others row k) j f x
    (others_empty row k j ne empty) in
    let de : IsNoLess (c d) (c e) = no_less _ _ (settled e was d df) in
    let fe : IsNoLess (c f) (c e) = no_less _ _ (settled e was f (also d df)) in
    let l : IsNoLess (crowd t row d) (crowd t row f) = no_less _ _ (least d df) in
    let result : IsNoLess (plus (c d) (shared t d f)) (plus (c e) (shared t e f)) =
    step t laws c d e f de fe (subst (λ x. IsNoLess x (plus (c f) (shared t f e))) (with_e d)
    (subst (λ x. IsNoLess (crowd t row d) x) (with_e f) l)) in
    let first : IsNoLess (crowd t (others (set row j (Some f)) k) d) (plus (c e) (shared t e f)) =
    subst (λ x. IsNoLess x (plus (c e) (shared t e f))) (sym (with_f d)) result in
    let both : IsNoLess (crowd t (others (set row j (Some f)) k) d)
    (crowd t (others (set row j (Some f)) k) e) =
    subst (λ x. IsNoLess (crowd t (others (set row j (Some f)) k) d) x) (sym (with_f e)) first
    in
    not_less (crowd t (others (set row j (Some f)) k) d) (crowd t (others (set row j (Some f)) k) e)
    both
