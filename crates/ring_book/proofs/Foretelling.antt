-- What is told of a rebalance before it is done is what it does.
use Rattle.std.proofs.Common.{◌≡◌, ◌≢◌, ◌∙◌, ℕ, List, Some, ap, inl, inr, max, refl, sym}
use Rattle.builder.specs.Preview.{Rebalances, asked_as}
use Rattle.builder.specs.Step.{MovesSeats, State}
use Rattle.builder.proofs.Foretold.{gives_foretold, is_as_told}
use Rattle.builder.proofs.Kept.{kept_to}
use Rattle.builder.proofs.Previews.{gives_ring, refused_few, refused_missing}
use Rattle.ring_messages.specs.declared.told.Told.TheVariants as told
use Rattle.ring_model.specs.Ring.{RingRecord}
use Rattle.ring_model.specs.Rings.{ring_at}
use Rattle.ring_reads.specs.Holding.{Holding, hour_now}
use Rattle.ring_reads.specs.Preview.{IsPreviewJson}
use Rattle.ring_reads.specs.Reads.{Hides, IsHidden, Shows}
use Rattle.ring_reads.specs.declared.reads.Hidden.{Hidden}
use Rattle.ring_reads.specs.declared.reads.Hidden.TheVariants.{BadText, NoMemory, NoRing, NoVersion}
use Rattle.ring_reads.specs.declared.reads.Hidden.TheVariants.{NotAssigned, TooFewDevices}
use Rattle.ring_reads.specs.declared.reads.Question.TheVariants as question
use Rattle.ring_reads.specs.declared.reads.Read.TheVariants as read
use Rattle.ring_words.specs.declared.request.Limits.{Limits}
use Rattle.ring_words.specs.declared.command.Reply.{Reply}
use Rattle.ring_words.specs.declared.command.Reply.TheVariants as reply
use Rattle.ring_book.specs.Foretold.{Binds, Foretells}
use Rattle.ring_book.specs.Told.{told_hidden}

-- a text of a preview binds the rebalances that ask for what it tells
pub bound : (limits : Limits) (held : Holding) (prefix suffix name text : List ℕ) (seed asked : ℕ) →
    Shows prefix suffix held (question.Ring name (read.Preview seed asked)) text →
    Binds limits name (max (hour_now held) asked) seed held.rings text
bound limits held prefix suffix name text seed asked shown =
    let hour = max (hour_now held) asked in
    let old : RingRecord = shown.0 in
    let seen : IsPreviewJson name old (max (hour_now held) asked) seed text = shown.2 in
    record {
      old = old;
      new = seen.new;
      was = shown.1;
      told = seen.tells;
      done = λ rings after answer is step. gives_foretold limits rings after hour name seed answer old
          seen.new is seen.enough seen.seeded step;
      only = λ rings after at answer step.
          let is = is_as_told limits rings after at name (asked_as hour seed seen.new) answer step in
          (is.hour_told, is.version);
      kept = λ begin end entries rings way i j entry less there was below done.
          kept_to limits begin end entries rings way name i j old seen.new
          (asked_as hour seed seen.new) entry less there was seen.seeded refl below done;
    }

pub foretold : (limits : Limits) (held : Holding) (rings after : State)
    (prefix suffix name text : List ℕ) (seed asked : ℕ) (answer : Reply) →
    ring_at name rings ≡ ring_at name held.rings →
    Shows prefix suffix held (question.Ring name (read.Preview seed asked)) text →
    Rebalances limits rings (max (hour_now held) asked) name seed answer after →
    Foretells name (max (hour_now held) asked) seed held.rings text answer after
foretold limits held rings after prefix suffix name text seed asked (reply.Refused refused) same
    shown step =
    let seen : IsPreviewJson name shown.0 (max (hour_now held) asked) seed text = shown.2 in
    gives_ring limits rings (max (hour_now held) asked) name seed (reply.Refused refused) after shown.0
    seen.new (same ∙ shown.1) seen.enough seen.seeded step
foretold limits held rings after prefix suffix name text seed asked (reply.Done done) same shown
    step =
    let hour = max (hour_now held) asked in
    let seen : IsPreviewJson name shown.0 (max (hour_now held) asked) seed text = shown.2 in
    let given : MovesSeats hour seed shown.0 done seen.new × (ring_at name after ≡ Some seen.new) =
    gives_ring limits rings hour name seed (reply.Done done) after shown.0 seen.new
    (same ∙ shown.1) seen.enough seen.seeded step in
    record {
      old = shown.0;
      new = seen.new;
      was = shown.1;
      is = given.1;
      moves = given.0;
      told = seen.tells;
    }

-- why a ring that is there shows no preview is why its rebalance is refused
hidden_refusal : (limits : Limits) (rings after : State) (hour : ℕ) (name : List ℕ) (seed asked : ℕ)
    (answer : Reply) (ring : RingRecord) (why : Hidden) → ring_at name rings ≡ Some ring →
    IsHidden ring (read.Preview seed asked) why → why ≢ NoMemory →
    Rebalances limits rings hour name seed answer after → told_hidden why ≡ told.Reply answer
hidden_refusal limits rings after hour name seed asked answer ring NoMemory at hidden memory step =
    absurd (memory refl)
hidden_refusal limits rings after hour name seed asked answer ring NoRing at hidden memory step =
    absurd hidden
hidden_refusal limits rings after hour name seed asked answer ring NotAssigned at hidden memory step =
    absurd hidden
hidden_refusal limits rings after hour name seed asked answer ring NoVersion at hidden memory step =
    absurd hidden
hidden_refusal limits rings after hour name seed asked answer ring BadText at hidden memory step =
    absurd hidden
hidden_refusal limits rings after hour name seed asked answer ring TooFewDevices at hidden memory step =
    ap told.Reply (sym (refused_few limits rings hour name seed answer after ring at hidden step))

pub foretold_refusal : (limits : Limits) (held : Holding) (rings after : State) (name : List ℕ)
    (seed asked : ℕ) (why : Hidden) (answer : Reply) → ring_at name rings ≡ ring_at name held.rings →
    Hides held (question.Ring name (read.Preview seed asked)) why → why ≢ NoMemory →
    Rebalances limits rings (max (hour_now held) asked) name seed answer after →
    told_hidden why ≡ told.Reply answer
foretold_refusal limits held rings after name seed asked why answer same hides memory step =
    elim hides [
      | inl none ↦
          ap told_hidden none.0
          ∙ ap told.Reply (sym (refused_missing limits rings (max (hour_now held) asked) name seed answer
          after (same ∙ none.1) step))
      | inr there ↦
          hidden_refusal limits rings after (max (hour_now held) asked) name seed asked answer there.0 why
          (same ∙ there.1) there.2 memory step
    ]
