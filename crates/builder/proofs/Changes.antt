-- What a step makes of a ring, as far as power, hours and moves go.
use Rattle.std.proofs.Common.{◌≡◌, ℕ, ◌⊎◌, Bool, true, false, cond, List, [], ◌∷◌, Some, refl, sym}
use Rattle.std.proofs.Common.{ap, subst, ◌∙◌, inl, inr, ⊎_elim, true≢false}
use Rattle.std.specs.Prelude.{nat_eq}
use Rattle.std.specs.Cmp.Lexicographic.{pointwise}
use Rattle.std.proofs.lemmas.Bool.{cases_Bool}
use Rattle.std.proofs.lemmas.Slice.Eq.{bytes_eq-Decides}
use Rattle.ring_model.specs.Import.{after_row, after_rows}
use Rattle.ring_model.specs.Publish.{is_published}
use Rattle.ring_model.specs.Raise.{IsRaised}
use Rattle.ring_model.specs.Ring.{RingRecord, added, changed, risen}
use Rattle.ring_model.specs.Rings.{ring_at}
use Rattle.ring_place.specs.Rebalance.{IsRebalance}
use Rattle.ring_words.specs.Rows.{has_place}
use Rattle.ring_words.specs.declared.device.Row.{Row}
use Rattle.ring_words.specs.declared.device.Device.{Device}
use Rattle.ring_words.specs.declared.request.Limits.{Limits}
use Rattle.ring_words.specs.declared.command.Command.{Command}
use Rattle.ring_words.specs.declared.command.Act.{Act}
use Rattle.ring_words.specs.declared.command.Act.TheVariants as act
use Rattle.ring_words.specs.declared.command.Done.{Done}
use Rattle.ring_words.specs.declared.command.Reply.{Reply}
use Rattle.ring_words.specs.declared.command.Reply.TheVariants as reply
use Rattle.request_book.specs.declared.entry.Entry.{Entry}
use Rattle.builder.specs.Safety.{IsDone, IsSameBeside}
use Rattle.builder.specs.Step.{Effect, RingEffect, State, Step, is_refused}
use Rattle.builder.proofs.Others.{others_stay}
use Rattle.builder.proofs.RingAt.{ring_at-with, same_name}

-- The rings have the same power, hours and moves.
pub record AreAlike (old new : RingRecord) : Type 0 where
  pub power : new.power ≡ old.power
  pub min_hours : new.min_hours ≡ old.min_hours
  pub moved : new.moved ≡ old.moved

-- Only the hours differ, and they are as many as this.
pub record HasHours (old : RingRecord) (hours : ℕ) (new : RingRecord) : Type 0 where
  pub power : new.power ≡ old.power
  pub min_hours : new.min_hours ≡ hours
  pub moved : new.moved ≡ old.moved

-- What an act that was done made of a ring.
pub data Change (what : Act) (hour : ℕ) (old new : RingRecord) : Type 0 where
  Alike : AreAlike old new → Change what hour old new
  SetHours : (hours : ℕ) → what ≡ act.SetHours hours → HasHours old hours new
      → Change what hour old new
  PretendPassed : what ≡ act.PretendPassed → new.min_hours ≡ old.min_hours
      → Change what hour old new
  Raise : IsRaised old new → Change what hour old new
  Rebalance : IsRebalance old hour new → Change what hour old new

alike_as : (what : Act) (hour : ℕ) (old it new : RingRecord) → new ≡ it → AreAlike old it
    → Change what hour old new
alike_as what hour old it new is alike = Alike (subst (λ r. AreAlike old r) (sym is) alike)

alike_row_if : (b : Bool) (ring : RingRecord) (row : Row) (devices : List Device)
    → AreAlike ring (cond b (record ring { devices = devices }) (added ring row))
alike_row_if true ring row devices = record { power = refl; min_hours = refl; moved = refl }
alike_row_if false ring row devices = record { power = refl; min_hours = refl; moved = refl }

alike_row : (ring : RingRecord) (row : Row) → AreAlike ring (after_row ring row)
alike_row ring row = alike_row_if (has_place row ring.devices) ring row _

alike_rows : (ring : RingRecord) (rows : List Row) → AreAlike ring (after_rows ring rows)
alike_rows ring [] = record { power = refl; min_hours = refl; moved = refl }
alike_rows ring (row ∷ rows) =
    let one = alike_row ring row in
    let rest = alike_rows (after_row ring row) rows in
    record {
      power = rest.power ∙ one.power;
      min_hours = rest.min_hours ∙ one.min_hours;
      moved =
          rest.moved ∙ one.moved;
    }

alike_published_if : (b : Bool) (ring : RingRecord) (published : List (ℕ × List ℕ))
    → AreAlike ring (cond b ring (record ring { published = published }))
alike_published_if true ring published = record { power = refl; min_hours = refl; moved = refl }
alike_published_if false ring published = record { power = refl; min_hours = refl; moved = refl }

change_of : (a : Act) (answer : Done) (name : List ℕ) (old new : RingRecord) (hour : ℕ)
    → RingEffect name hour old a answer new → Change a hour old new
change_of (act.Add row) answer name old new hour effect =
    alike_as _ hour old _ new effect.0 (record { power = refl; min_hours = refl; moved = refl })
change_of (act.OnDevice id what) answer name old new hour effect =
    alike_as _ hour old _ new effect.0 (record { power = refl; min_hours = refl; moved = refl })
change_of (act.SetHours hours) answer name old new hour effect =
    SetHours hours refl
    (subst (λ r. HasHours old hours r) (sym effect.0) (record {
      power = refl;
      min_hours = refl;
      moved = refl;
    }))
change_of act.PretendPassed answer name old new hour effect =
    PretendPassed refl (ap (λ (r : RingRecord). r.min_hours) effect.0)
change_of act.RaisePower answer name old new hour effect =
    Raise effect.0
change_of (act.Import rows) answer name old new hour effect =
    let rest = alike_rows old rows in
    alike_as _ hour old _ new effect.0
    (record { power = rest.power; min_hours = rest.min_hours; moved = rest.moved })
change_of (act.Rebalance seed) answer name old new hour effect =
    Rebalance effect.0
change_of (act.RebalanceAs told) answer name old new hour effect =
    Rebalance effect.0
change_of act.Publish answer name old new hour effect =
    alike_as _ hour old _ new effect.0 (alike_published_if (is_published old) old _)
change_of a answer name old new hour effect = absurd effect

-- ---- the version

-- The version rises, or it stays and all but the published texts does.
abbrev pub Rises : RingRecord → RingRecord → Type 0
Rises old new = (new.version ≡ risen old.version) ⊎ IsSameBeside old new

version_row_if : (b : Bool) (ring : RingRecord) (row : Row) (devices : List Device)
    → (cond b (record ring { devices = devices }) (added ring row)).version ≡ ring.version
version_row_if true ring row devices = refl
version_row_if false ring row devices = refl

version_rows : (ring : RingRecord) (rows : List Row) → (after_rows ring rows).version ≡ ring.version
version_rows ring [] = refl
version_rows ring (row ∷ rows) =
    version_rows (after_row ring row) rows
    ∙ version_row_if (has_place row ring.devices) ring row _

beside_if : (b : Bool) (ring : RingRecord) (published : List (ℕ × List ℕ))
    → IsSameBeside ring (cond b ring (record ring { published = published }))
beside_if true ring published = refl
beside_if false ring published = refl

-- where a ring is the old one at the version after a change
by_change : (old it new : RingRecord) → it.version ≡ old.version → new ≡ changed it → Rises old new
by_change old it new same is =
    inl (ap (λ (r : RingRecord). r.version) is ∙ ap risen same)

rises_by : (a : Act) (answer : Done) (name : List ℕ) (old new : RingRecord) (hour : ℕ)
    → RingEffect name hour old a answer new → Rises old new
rises_by (act.Add row) answer name old new hour effect = by_change old _ new refl effect.0
rises_by (act.OnDevice id what) answer name old new hour effect = by_change old _ new refl effect.0
rises_by (act.SetHours hours) answer name old new hour effect = by_change old _ new refl effect.0
rises_by act.PretendPassed answer name old new hour effect = by_change old _ new refl effect.0
rises_by act.RaisePower answer name old new hour effect = inl effect.0.version
rises_by (act.Import rows) answer name old new hour effect =
    by_change old (after_rows old rows) new (version_rows old rows) effect.0
rises_by (act.Rebalance seed) answer name old new hour effect = inl effect.0.after.version
rises_by (act.RebalanceAs told) answer name old new hour effect = inl effect.0.after.version
rises_by act.Publish answer name old new hour effect =
    inr (subst (λ (r : RingRecord). IsSameBeside old r) (sym effect.0)
    (beside_if (is_published old) old _))
rises_by a answer name old new hour effect = absurd effect

-- What a step makes of the ring of a name: the ring stays, or the step's act is done on it.
abbrev pub Next : List ℕ → Entry Command Reply → RingRecord → RingRecord → Type 0
Next name entry old new =
    (new ≡ old) ⊎ (IsDone name entry.command.act entry × Change entry.command.act entry.hour old
    new × Rises old new)

-- A ring that was there before a step is there after it.
pub record IsNext (name : List ℕ) (entry : Entry Command Reply) (old : RingRecord) (after : State) :
    Type 0 where
  pub new : RingRecord
  pub is : ring_at name after ≡ Some new
  pub next : Next name entry old new

by_reply : (limits : Limits) (rings after : State) (name : List ℕ) (entry : Entry Command Reply)
    (r : Reply) (old : RingRecord) → entry.reply ≡ r
    → Step limits rings entry.hour entry.command r after → ring_at name rings ≡ Some old
    → IsNext name entry old after
by_reply limits rings after name entry (reply.Refused refused) old gives step was =
    record { new = old; is = ap (ring_at name) step.1 ∙ was; next = inl refl }
by_reply limits rings after name entry (reply.Done answer) old gives step was =
    ⊎_elim same other (cases_Bool (pointwise nat_eq entry.command.ring name))
  where
    same : pointwise nat_eq entry.command.ring name ≡ true → IsNext name entry old after
    same e =
        let is : entry.command.ring ≡ name = (bytes_eq-Decides entry.command.ring name).0 e in
        let at : Step limits rings entry.hour (record { ring = name; act = entry.command.act })
        (reply.Done answer) after =
        subst (λ (n : List ℕ). Step limits rings entry.hour (record {
          ring = n;
          act =
              entry.command.act;
        }) (reply.Done answer) after) is step in
        let new : RingRecord = at.1.0 in
        let effect : RingEffect name entry.hour old entry.command.act answer new =
        subst (λ o. Effect name entry.hour o entry.command.act answer new) was at.1.1 in
        record {
          new = new;
          is = ap (ring_at name) at.1.2 ∙ ring_at-with rings name new;
          next = inr (
            record { ring = is; is = refl; done = ap is_refused gives },
            change_of entry.command.act answer name old new entry.hour effect,
            rises_by entry.command.act answer name old new entry.hour effect,
          );
        }

    other : pointwise nat_eq entry.command.ring name ≡ false → IsNext name entry old after
    other e =
        let ne : name ≡ entry.command.ring → ⊥ =
        λ is. true≢false
        (sym (ap (λ (n : List ℕ). pointwise nat_eq n name) (sym is) ∙ same_name name) ∙ e) in
        record {
          new = old;
          is = others_stay limits rings after entry.hour entry.command
              (reply.Done answer) name step ne ∙ was;
          next = inl refl;
        }

pub next_ring : (limits : Limits) (rings after : State) (name : List ℕ)
    (entry : Entry Command Reply) (old : RingRecord)
    → Step limits rings entry.hour entry.command entry.reply after → ring_at name rings ≡ Some old
    → IsNext name entry old after
next_ring limits rings after name entry old step was =
    by_reply limits rings after name entry entry.reply old refl step was
