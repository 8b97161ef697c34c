-- What becomes of a ring's hours, and of the hours of a book.
use Rattle.std.proofs.Common.{◌≡◌, ℕ, ◌<◌, ◌≤◌, ◌⊎◌, List, [], ◌∷◌, max, sym, ap, subst, ◌∙◌, inl}
use Rattle.std.proofs.Common.{inr, ⊎_elim, arith}
use Rattle.std.specs.Prelude.{All}
use Rattle.std.proofs.Math.Nat.{le-max_left}
use Rattle.std.proofs.lemmas.Bool.{cases_lt}
use Rattle.std.proofs.lemmas.List.Elements.{All-cons, All-nil}
use Rattle.std.proofs.lemmas.List.Kept.{AllPairs-cons}
use Rattle.ring_model.specs.Ring.{RingRecord}
use Rattle.ring_words.specs.declared.command.Command.{Command}
use Rattle.ring_words.specs.declared.command.Act.{Act}
use Rattle.ring_words.specs.declared.command.Act.TheVariants as act
use Rattle.ring_words.specs.declared.command.Reply.{Reply}
use Rattle.request_book.specs.Run.{kept}
use Rattle.request_book.specs.declared.entry.Entry.{Entry}
use Rattle.builder.specs.Safety.{DoNotFall, Entries, IsDone}
use Rattle.builder.proofs.Changes.{Alike, Change, Next, PretendPassed, Raise, Rebalance, SetHours}

-- ---- of a ring

abbrev AreSet : (what : Act) (old new : RingRecord) → Type 0
AreSet what old new = (new.min_hours ≡ old.min_hours) ⊎ (what ≡ act.SetHours new.min_hours)

hours_changed : (what : Act) (hour : ℕ) (old new : RingRecord) → Change what hour old new
    → AreSet what old new
hours_changed what hour old new (Alike alike) = inl alike.min_hours
hours_changed what hour old new (SetHours hours is set) =
    inr (is ∙ ap act.SetHours (sym set.min_hours))
hours_changed what hour old new (PretendPassed is same) = inl same
hours_changed what hour old new (Raise raised) =
    inl (ap (λ (r : RingRecord). r.min_hours) raised.rest)
hours_changed what hour old new (Rebalance is) =
    inl (ap (λ (r : RingRecord). r.min_hours) is.after.rest)

-- A ring has at least so many hours, unless fewer were set.
pub hours_next : (name : List ℕ) (entry : Entry Command Reply) (hours : ℕ)
    → ((set : ℕ) → set < hours → IsDone name (act.SetHours set) entry → ⊥) → (old new : RingRecord)
    → Next name entry old new → hours ≤ old.min_hours → hours ≤ new.min_hours
hours_next name entry hours never old new next many = ⊎_elim
    (λ same. subst (λ (ring : RingRecord). hours ≤ ring.min_hours) (sym same) many)
    (λ did. ⊎_elim
    (λ same. omega arith)
    (λ is. ⊎_elim
    (λ few. absurd (never new.min_hours few (record {
      ring = did.0.ring;
      is = is;
      done =
          did.0.done;
    })))
    (λ enough. enough)
    (cases_lt new.min_hours hours))
    (hours_changed entry.command.act entry.hour old new did.1))
    next

-- ---- of a book

kept_late : (least hour : ℕ) (es : Entries) → least ≤ hour
    → All (λ (e : Entry Command Reply). least ≤ e.hour) (kept hour es)
kept_late least hour [] low = All-nil (λ (e : Entry Command Reply). least ≤ e.hour)
kept_late least hour (e ∷ es) low =
    let up : least ≤ max hour e.hour = omega (arith, le-max_left hour e.hour) in
    All-cons (λ (x : Entry Command Reply). least ≤ x.hour) (record e { hour = max hour e.hour })
    (kept (max hour e.hour) es) up (kept_late least (max hour e.hour) es up)

pub kept_do_not_fall : (hour : ℕ) (es : Entries) → DoNotFall (kept hour es)
kept_do_not_fall hour [] = λ i j d less lt. absurd (omega arith)
kept_do_not_fall hour (e ∷ es) =
    AllPairs-cons (λ (a b : Entry Command Reply). a.hour ≤ b.hour) (record e {
      hour =
          max hour e.hour;
    })
    (kept (max hour e.hour) es)
    (kept_late (max hour e.hour) (max hour e.hour) es (omega arith))
    (kept_do_not_fall (max hour e.hour) es)
