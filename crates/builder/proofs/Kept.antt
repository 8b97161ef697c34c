-- A rebalance that was foretold and is done later in a run is the one that was foretold.
use Rattle.std.proofs.Common.{◌≡◌, ◌∙◌, ℕ, ◌+◌, ◌<◌, ◌≤◌, List, Some, ap, ap₂, arith, length, refl}
use Rattle.std.proofs.Common.{subst, sym}
use Rattle.std.specs.Prelude.{slice_get}
use Rattle.std.proofs.lemmas.Option.{slice_get_within}
use Rattle.ring_model.specs.Ring.{RingRecord, risen}
use Rattle.ring_model.specs.Rings.{ring_at}
use Rattle.ring_place.specs.Seeded.{IsSeeded}
use Rattle.ring_place.proofs.Seeded.{one_seeded}
use Rattle.ring_share.specs.Want.{AreWanted}
use Rattle.ring_words.specs.Limits.{greatest_long}
use Rattle.ring_words.specs.declared.request.Limits.{Limits}
use Rattle.ring_words.specs.declared.command.Command.{Command}
use Rattle.ring_words.specs.declared.command.Act.TheVariants as act
use Rattle.ring_words.specs.declared.command.Done.{Done}
use Rattle.ring_words.specs.declared.command.Foretold.{Foretold}
use Rattle.ring_words.specs.declared.command.Reply.{Reply}
use Rattle.ring_words.specs.declared.command.Reply.TheVariants as reply
use Rattle.request_book.specs.declared.entry.Entry.{Entry}
use Rattle.builder.specs.Preview.{IsDoneAsTold, foretold_answer, foretold_of}
use Rattle.builder.specs.Safety.{Entries, IsDone, IsSameBeside, IsWay}
use Rattle.builder.specs.Step.{Effect, MovesAsForetold, State, Step}
use Rattle.builder.proofs.Few.{done_answer, done_step}
use Rattle.builder.proofs.Foretold.{is_as_told}
use Rattle.builder.proofs.RingAt.{ring_at-with}
use Rattle.builder.proofs.Versions.{below_risen, same_risen, same_since, since_at}

-- ---- whatever texts are published

-- the ring with these texts
abbrev texted : List (ℕ × List ℕ) → RingRecord → RingRecord
texted published ring = record ring { published = published }

wanted_beside : (ring : RingRecord) (published : List (ℕ × List ℕ)) (wanted : List ℕ)
    → AreWanted ring wanted → AreWanted (texted published ring) wanted
wanted_beside ring published wanted are = record {
  shares = record {
    count = are.shares.count;
    shares = are.shares.shares;
    order = λ one other first second at there here too more less.
        let before = are.shares.order one other first second at there here too more less in
        record { rest = before.rest; tie = before.tie };
    closed = are.shares.closed;
  };
  total = are.total;
}

seeded_beside : (ring new : RingRecord) (published : List (ℕ × List ℕ)) (hour seed : ℕ)
    → IsSeeded ring hour seed new
    → IsSeeded (texted published ring) hour seed (texted published new)
seeded_beside ring new published hour seed seeded = record {
  wanted = seeded.wanted;
  are = wanted_beside ring published seeded.wanted seeded.are;
  is = ap (texted published) seeded.is;
}

-- the answer tells nothing of them
answer_beside : (published : List (ℕ × List ℕ)) (old new : RingRecord)
    → foretold_answer old new ≡ foretold_answer (texted published old) (texted published new)
answer_beside published old new = refl

-- ---- the same ring, rebalanced later

module _ (first foretold later left : RingRecord) (told : Foretold) (answer : Done) (hour : ℕ)
    (same : IsSameBeside first later) (at : hour ≡ told.hour)
    (seeded : IsSeeded first told.hour told.seed foretold)
    (moves : MovesAsForetold hour told later answer left) where
  left_is : texted first.published left ≡ foretold
  left_is =
      let moved : IsSeeded first hour told.seed (texted first.published left) =
      subst (λ (r : RingRecord). IsSeeded r hour told.seed (texted first.published left)) same
      (seeded_beside later left first.published hour told.seed moves.2) in
      one_seeded first (texted first.published left) foretold told.hour told.seed
      (subst (λ (h : ℕ). IsSeeded first h told.seed (texted first.published left)) at moved) seeded

  left_same : IsSameBeside foretold left
  left_same =
      let texts : foretold.published ≡ first.published =
      ap (λ (r : RingRecord). r.published) seeded.is in
      ap (λ p. texted p left) texts ∙ left_is

  answer_is : answer ≡ foretold_answer first foretold
  answer_is = moves.1 ∙ answer_beside first.published later left ∙ ap₂ foretold_answer same left_is

pub kept_to : (limits : Limits) (old new : State) (entries : Entries) (rings : ℕ → State)
    → IsWay limits old entries new rings → (name : List ℕ) (i j : ℕ) (first foretold : RingRecord)
    (told : Foretold) (entry : Entry Command Reply) → i ≤ j → slice_get entries j ≡ Some entry
    → ring_at name (rings i) ≡ Some first → IsSeeded first told.hour told.seed foretold
    → told.version ≡ foretold.version → told.version < greatest_long
    → IsDone name (act.RebalanceAs told) entry
    → IsDoneAsTold name first foretold told entry (rings (j + 1))
kept_to limits old new entries rings way name i j first foretold told entry less there was seeded
    version below done =
    let within : j < length entries = slice_get_within entries j entry there in
    let answer : Done = (done_answer entry.reply done.done).0 in
    let step : Step limits (rings j) entry.hour (foretold_of name told) (reply.Done answer)
    (rings (j + 1)) =
    done_step limits (rings j) (rings (j + 1)) name (act.RebalanceAs told) entry done
    (way.steps j entry there) in
    let is = is_as_told limits (rings j) (rings (j + 1)) entry.hour name told answer step in
    let left : RingRecord = step.1.0 in
    let rises : foretold.version ≡ risen first.version =
    ap (λ (r : RingRecord). r.version) seeded.is in
    let short : risen first.version < greatest_long = omega (arith, rises, version, below) in
    let now = since_at limits old new entries rings way name i j first less (omega arith) was
    (below_risen first.version short) in
    let moves : MovesAsForetold entry.hour told now.now answer left =
    subst (λ o. Effect name entry.hour o (act.RebalanceAs told) answer left) now.is step.1.1 in
    let once : risen now.now.version ≡ risen first.version =
    sym moves.0.after.version ∙ sym (ap (λ (x : Done). x.version) moves.1) ∙ is.version ∙ version
    ∙ rises in
    let same : IsSameBeside first now.now =
    same_since first now.now
    (same_risen now.now.version first.version once (subst (λ (v : ℕ). v < greatest_long) (sym once)
    short)) now.has in
    record {
      hour = is.hour_told;
      reply = (done_answer entry.reply done.done).1
          ∙ ap reply.Done (answer_is first foretold now.now left told answer entry.hour same
          is.hour_told seeded moves);
      left = left;
      is = ap (ring_at name) step.1.2 ∙ ring_at-with (rings j) name left;
      same = left_same first foretold now.now left told answer entry.hour same is.hour_told seeded
          moves;
    }
