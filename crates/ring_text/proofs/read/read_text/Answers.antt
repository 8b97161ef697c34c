use Rattle.std.proofs.Common.{◌≡◌, List, ℕ, map, Bor, Vec, refl, sym, ap, subst, ◌∙◌}
use Rattle.std.specs.Prelude.{◌==◌}
use Rattle.std.specs.List.{slice_split}
use Rattle.std.specs.declared.alloc.Global.{Global}
use Rattle.std.proofs.lemmas.Result.{err_from_is_err_and}
use Rattle.ring_words.specs.declared.device.Device.{Device}
use Rattle.ring_words.proofs.Spelled.{reads_err, as_reads_err, reads_same}
use Rattle.ring_text.specs.Inner.Reading.{AreRingLines, FollowHead, IsHead, IsMadeOfLines}
use Rattle.ring_text.proofs.Rest.{none_read, first_six, behind_six, more_than_six, rest_within}
use Rattle.ring_text.proofs.Whole.{first_texts, last_texts, head_of, head_within, whole_text}
use Rattle.ring_text.proofs.Whole.{length-first_texts, lines_of_made, lines_of_parts}
use Rattle.ring_text.proofs.read.read_text.Goals as goal

abbrev Texts : Type 0
Texts = List (List ℕ)

abbrev lines_of : List ℕ → Texts
lines_of text = slice_split (λ b. b == 10) text

pub returns-in_err-first : goal.returns-in_err-first
returns-in_err-first c =
    let p = err_from_is_err_and c.from_residual.result c.from_residual.ensures.1 in
    let texts = lines_of c.args.text.now in
    rw (p.1, p.2) (none_read (AreRingLines texts) c.in_err-first.field-0.0
    (λ bad s are. (rw bad at c.in_err-first.ensures.bad) refl (first_texts s) (last_texts s)
    (whole_text texts s are) (more_than_six s) (length-first_texts s)))

pub returns-in_err-head : goal.returns-in_err-head
returns-in_err-head c =
    let p = err_from_is_err_and c.from_residual-in_err-head.result
    c.from_residual-in_err-head.ensures.1 in
    let texts = lines_of c.args.text.now in
    let lines : Texts = map (λ (l : Bor (List ℕ)). l.now) c.in_ok-first.first.items in
    let first = first_six c.args.text.now c.in_ok-first.rest.now lines c.in_ok-first.ensures.read in
    let lent : Texts = map (λ (l : Bor (List ℕ)). l.now) c.deref.result.now in
    let same : lent ≡ lines = ap (map (λ (l : Bor (List ℕ)). l.now)) c.deref.ensures.value in
    rw (p.1, p.2) (reads_err (IsHead lent) (AreRingLines texts) c.in_err-head.field-0.0
    c.in_err-head.ensures
    (λ s are. (
      head_of s,
      subst (λ (t : Texts). IsHead t (head_of s)) (first ∙ sym same) (head_within texts s are),
    )))

pub returns-in_err-devices : goal.returns-in_err-devices
returns-in_err-devices c =
    let p = err_from_is_err_and c.from_residual-in_err-devices.result
    c.from_residual-in_err-devices.ensures.1 in
    let texts = lines_of c.args.text.now in
    let head = c.in_ok-head.head in
    let lines : Texts = map (λ (l : Bor (List ℕ)). l.now) c.in_ok-first.first.items in
    let first = first_six c.args.text.now c.in_ok-first.rest.now lines c.in_ok-first.ensures.read in
    let back = behind_six c.args.text.now c.in_ok-first.rest.now lines c.in_ok-first.ensures.read in
    let tells = subst (λ (t : Texts). IsHead t head) (sym first) (rw c.deref.ensures.value at
    c.in_ok-head.ensures) in
    rw (p.1, p.2) (as_reads_err (λ (x : Vec Device Global × Vec ℕ Global). (x.0.items, x.1.items))
    (λ (y : List Device × List ℕ). FollowHead head (lines_of c.in_ok-first.rest.now) y.0 y.1)
    (AreRingLines texts) c.in_err-devices.field-0.0 c.in_err-devices.ensures
    (λ s are. (
      (s.devices, s.seats),
      subst (λ (t : Texts). FollowHead head t s.devices s.seats) back (rest_within texts head s tells
          are),
    )))

pub returns : goal.returns
returns c =
    let texts = lines_of c.args.text.now in
    let head = c.in_ok-head.head in
    let lines : Texts = map (λ (l : Bor (List ℕ)). l.now) c.in_ok-first.first.items in
    let first = first_six c.args.text.now c.in_ok-first.rest.now lines c.in_ok-first.ensures.read in
    let back = behind_six c.args.text.now c.in_ok-first.rest.now lines c.in_ok-first.ensures.read in
    let tells = subst (λ (t : Texts). IsHead t head) (sym first) (rw c.deref.ensures.value at
    c.in_ok-head.ensures) in
    let devices = c.in_ok-devices.devices.items in
    let seats = c.in_ok-devices.seats.items in
    let rest = subst (λ (t : Texts). FollowHead head t devices seats) (sym back) c.in_ok-devices.ensures
    in
    reads_same (IsMadeOfLines head devices seats) (AreRingLines texts) c.checked.result
    (λ s. lines_of_parts texts head rest.parts devices seats s tells rest.cut rest.first
    rest.second)
    (λ s. lines_of_made texts head rest.parts devices seats s tells rest.cut rest.first rest.second)
    c.checked.ensures
