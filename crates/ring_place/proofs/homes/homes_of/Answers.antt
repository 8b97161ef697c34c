use Rattle.std.proofs.Common.{◌≡◌, ◌∙◌, ℕ, Bool, true, false, cond, List, Option}
use Rattle.std.proofs.Common.{None, Some, IfSome, ap, arith, get_or, length, refl, replicate, set}
use Rattle.std.proofs.Common.{subst, sym}
use Rattle.std.proofs.lemmas.List.{length-replicate, length-set}
use Rattle.ring_model.specs.Ring.{has_device}
use Rattle.ring_room.specs.Load.{Load, has_room_in, load_put}
use Rattle.ring_room.specs.Rows.{AreKnown}
use Rattle.ring_place.specs.Made.{Homes, first_empty, home_of, keep_at, keep_home, keeps_home}
use Rattle.ring_place.specs.Made.{row_at, with_home}
use Rattle.ring_room.proofs.Steps.{steps_more, steps_none}
use Rattle.ring_place.proofs.Placing.Homes.{home_known}
use Rattle.ring_place.proofs.homes.homes_of.Goals as goal

same_devices : (load : Load) (home : Option ℕ) → (with_home load home).devices ≡ load.devices
same_devices load None = refl
same_devices load (Some home) = elim (has_room_in load home) as (λ b. (cond b (load_put load home)
    load).devices ≡ load.devices) [ true ↦ refl | false ↦ refl ]

home_kept : (load next : Load) (homes : List Bool) (p : ℕ) (home is : Option ℕ) (keeps : Bool) →
    home ≡ is → keeps ≡ keeps_home load home → next ≡ with_home load home →
    ◌≡◌ {A = Homes} (record { load = next; kept = set homes p keeps })
    (keep_home p is (record { load = load; kept = homes }))
home_kept load next homes p home is keeps same told put =
    ap (λ l. record { load = l; kept = set homes p keeps }) put
    ∙ ap (λ b. record { load = with_home load home; kept = set homes p b }) told
    ∙ ap (λ h. keep_home p h (record { load = load; kept = homes })) same

pub loop-partition-init : goal.loop-partition-init
loop-partition-init c =
    let none : c.in_ok-homes.homes.items ≡ replicate (length c.args.seats.now) false =
    c.in_ok-homes.ensures.items_if_clones_equal (λ y same. same)
    ∙ ap (λ (n : ℕ). replicate n false) c.count.ensures in
    record {
      devices = ap (λ (load : Load). load.devices) c.in_ok-kept.ensures;
      long = ap length none ∙ length-replicate (length c.args.seats.now) false;
      by_name =
          let first : Homes = record {
            load = c.args.room.now;
            kept = replicate (length c.args.seats.now) false;
          } in
          ap (λ load. record { load = load; kept = c.in_ok-homes.homes.items }) c.in_ok-kept.ensures
          ∙ ap (λ homes. record { load = c.args.room.now; kept = homes }) none
          ∙ steps_none (keep_at c.args.waiting.now c.args.old.now c.args.seats.now) first;
    }

pub keep_home-requires : goal.keep_home-requires
keep_home-requires c =
    let p = get_or c.args.waiting.now c.loop-partition.partition-index 0 in
    let known : AreKnown c.loop-partition.kept.devices c.row.result.now =
    subst (λ ds. AreKnown ds c.row.result.now) (sym c.loop-partition.invariant.devices)
    (subst (λ r. AreKnown c.args.room.now.devices r) (sym c.row.ensures)
    (c.requires.known p (c.requires.waiting c.loop-partition.partition-index 0 (omega arith)))) in
    subst (λ home. IfSome home (λ id. has_device id c.loop-partition.kept.devices ≡ true))
    (sym c.home_of-home.ensures) (home_known c.loop-partition.kept.devices c.row.result.now
    (first_empty c.row-in-loop-partition.result.now) known)

pub loop-partition-preserved : goal.loop-partition-preserved
loop-partition-preserved c =
    let p = get_or c.args.waiting.now c.loop-partition.partition-index 0 in
    let inv = c.loop-partition.invariant in
    record {
      devices = ap (λ (load : Load). load.devices) c.keep_home.ensures.load
          ∙ same_devices c.loop-partition.kept c.home_of-home.result ∙ inv.devices;
      long = length-set c.loop-partition.homes.items p c.keep_home.result ∙ inv.long;
      by_name = steps_more (keep_at c.args.waiting.now c.args.old.now c.args.seats.now)
          c.loop-partition.partition-index (record {
            load = c.args.room.now;
            kept = replicate (length c.args.seats.now) false;
          }) (record { load = c.loop-partition.kept; kept = c.loop-partition.homes.items }) _
          inv.by_name (home_kept c.loop-partition.kept c.keep_home.new.kept
          c.loop-partition.homes.items p c.home_of-home.result
          (home_of (row_at c.args.old.now p) (row_at c.args.seats.now p)) c.keep_home.result
          (c.home_of-home.ensures ∙ ap (λ r. home_of r c.row-in-loop-partition.result.now)
          c.row.ensures ∙ ap (home_of (row_at c.args.old.now p)) c.row-in-loop-partition.ensures)
          c.keep_home.ensures.keeps c.keep_home.ensures.load);
    }
