-- Along a run a version below the greatest is of one ring.
use Rattle.std.proofs.Common.{◌≡◌, ◌∙◌, ℕ, ◌+◌, ◌-◌, ◌<◌, ◌≤◌, ◌⊎◌, List, Some, length, ap, arith}
use Rattle.std.proofs.Common.{inl, inr, refl, subst, sym, ⊎_elim}
use Rattle.std.proofs.lemmas.Bool.{cases_eq, eq-eqb, ne_eqb}
use Rattle.ring_model.specs.Ring.{RingRecord, risen}
use Rattle.ring_model.specs.Rings.{ring_at}
use Rattle.ring_words.specs.Limits.{greatest_long}
use Rattle.ring_words.specs.declared.request.Limits.{Limits}
use Rattle.ring_words.specs.declared.command.Command.{Command}
use Rattle.ring_words.specs.declared.command.Reply.{Reply}
use Rattle.request_book.specs.declared.entry.Entry.{Entry}
use Rattle.builder.specs.Safety.{Entries, IsSameBeside, IsWay}
use Rattle.builder.specs.Step.{State}
use Rattle.builder.proofs.Changes.{Next, Rises}
use Rattle.builder.proofs.Ways.{IsThere, of_there, there_later}

-- a version that isn't below another one rises above it, if that isn't the greatest
above : (least version : ℕ) → least < greatest_long → least ≤ version → least < risen version
above least version below low = ⊎_elim
    (λ e. rw (eq-eqb version greatest_long e) below)
    (λ ne. rw (ne_eqb version greatest_long ne) (omega (arith, low)))
    (cases_eq version greatest_long)

-- what a ring is after others that began with the first: of a later version, or the same
abbrev pub IsSince : RingRecord → RingRecord → Type 0
IsSince first now = (first.version < now.version) ⊎ IsSameBeside first now

since_low : (first now : RingRecord) → IsSince first now → first.version ≤ now.version
since_low first now since = ⊎_elim
    (λ later. omega (arith, later))
    (λ same. let version : now.version ≡ first.version = ap (λ (r : RingRecord). r.version) same in
    omega (arith, version))
    since

beside_again : (first old new : RingRecord) → IsSameBeside old new → IsSameBeside first old
    → IsSameBeside first new
beside_again first old new next same =
    ap (λ (r : RingRecord). record r { published = first.published }) next ∙ same

since_rises : (first old new : RingRecord) → first.version < greatest_long → Rises old new
    → IsSince first old → IsSince first new
since_rises first old new below rises since = ⊎_elim
    (λ up. inl (subst (λ (v : ℕ). first.version < v) (sym up)
    (above first.version old.version below (since_low first old since))))
    (λ beside. ⊎_elim
    (λ later. let version : new.version ≡ old.version = ap (λ (r : RingRecord). r.version) beside in
    inl (subst (λ (v : ℕ). first.version < v) (sym version) later))
    (λ same. inr (beside_again first old new beside same))
    since)
    rises

since_next : (name : List ℕ) (entry : Entry Command Reply) (first : RingRecord)
    → first.version < greatest_long → (old new : RingRecord) → Next name entry old new
    → IsSince first old → IsSince first new
since_next name entry first below old new next since = ⊎_elim
    (λ same. subst (IsSince first) (sym same) since)
    (λ did. since_rises first old new below did.2 since)
    next

pub since_at : (limits : Limits) (old new : State) (entries : Entries) (rings : ℕ → State)
    → IsWay limits old entries new rings → (name : List ℕ) (i j : ℕ) (first : RingRecord)
    → i ≤ j → j ≤ length entries → ring_at name (rings i) ≡ Some first
    → first.version < greatest_long → IsThere (rings j) name (IsSince first)
since_at limits old new entries rings way name i j first less within was below =
    let n : ℕ = j - i in
    let at : i + n ≡ j = omega arith in
    subst (λ (k : ℕ). IsThere (rings k) name (IsSince first)) at
    (there_later limits old new entries rings way name (IsSince first) i n (omega arith)
    (λ k entry low high here. since_next name entry first below)
    (record { now = first; is = was; has = inr refl }))

pub same_since : (first now : RingRecord) → now.version ≡ first.version → IsSince first now
    → IsSameBeside first now
same_since first now version since =
    ⊎_elim (λ more. absurd (omega (arith, more, version))) (λ same. same) since

pub one_ring_of : (limits : Limits) (old new : State) (entries : Entries) (rings : ℕ → State)
    → IsWay limits old entries new rings → (name : List ℕ) (i j : ℕ) (first later : RingRecord)
    → i ≤ j → j ≤ length entries → ring_at name (rings i) ≡ Some first
    → ring_at name (rings j) ≡ Some later → later.version ≡ first.version
    → first.version < greatest_long → IsSameBeside first later
one_ring_of limits old new entries rings way name i j first later less within was is version below =
    same_since first later version
    (of_there (rings j) name (IsSince first) later
    (since_at limits old new entries rings way name i j first less within was below) is)

-- versions that rise to one below the greatest are one
pub same_risen : (one other : ℕ) → risen one ≡ risen other → risen one < greatest_long → one ≡ other
same_risen one other same below = ⊎_elim
    (λ e. (let is : risen one ≡ greatest_long = rw (eq-eqb one greatest_long e) refl in
    absurd (omega (arith, is, below))))
    (λ ne. ⊎_elim
    (λ e. (let is : risen other ≡ greatest_long = rw (eq-eqb other greatest_long e) refl in
    absurd (omega (arith, is, below, same))))
    (λ unlike. (let mine : risen one ≡ one + 1 = rw (ne_eqb one greatest_long ne) refl in
    let yours : risen other ≡ other + 1 = rw (ne_eqb other greatest_long unlike) refl in
    omega (arith, mine, yours, same)))
    (cases_eq other greatest_long))
    (cases_eq one greatest_long)

pub below_risen : (version : ℕ) → risen version < greatest_long → version < greatest_long
below_risen version below = ⊎_elim
    (λ e. (let is : risen version ≡ greatest_long = rw (eq-eqb version greatest_long e) refl in
    absurd (omega (arith, is, below))))
    (λ ne. (let is : risen version ≡ version + 1 = rw (ne_eqb version greatest_long ne) refl in
    omega (arith, is, below)))
    (cases_eq version greatest_long)
