use Rattle.std.proofs.Common.{◌∙◌, ◌-◌, ℕ, List, take, drop, length, subst, take-add, append-nil}
use Rattle.std.proofs.Common.{[], sym, refl, arith}
use Rattle.std.proofs.lemmas.List.{length-drop, length-take, take_all, take-append-drop}
use Rattle.std.specs.Io.KnownBytes.{Appends}
use Rattle.byte_streams.specs.Counted.{writer_of}
use Rattle.byte_streams.proofs.KnownLemmas.{Appends-then, Appends-kept}
use Rattle.byte_streams.proofs.output.write_whole.Goals as goal

pub loop-at-preserved-in-Ok : goal.loop-at-preserved-in-Ok
loop-at-preserved-in-Ok g c =
    let text = c.args.text.now in
    let at = c.loop-at.at in
    let i = c.loop-at.invariant in
    let n = c.in-Ok.count in
    let all = take_all (length text - at) (drop at text) (omega (arith, length-drop at text)) in
    let wrote = subst (λ (t : List ℕ). Appends (g.W.Write.contents (writer_of c.loop-at.writer))
    (g.W.Write.contents (writer_of c.write.new.self)) (take n t)) all c.in-Ok.ensures.bytes in
    record {
      within = omega (
        arith,
        c.in-Ok.ensures.bound,
        length-drop at text,
        length-take (length text - at) (drop at text),
      );
      so_far = subst (λ (t : List ℕ). Appends (g.W.Write.contents (writer_of c.args.writer.now))
          (g.W.Write.contents (writer_of c.write.new.self)) t) (sym (take-add at n text))
          (Appends-then _ _ _ (take at text) (take n (drop at text)) i.so_far wrote);
      same = c.in-Ok.ensures.some (omega (arith, c.in-Ok.count-test.1)) ∙ i.same;
    }

pub returns-in-Ok-eq0-clause-failed : goal.returns-in-Ok-eq0-clause-failed
returns-in-Ok-eq0-clause-failed g c =
    let text = c.args.text.now in
    let at = c.loop-at.at in
    let none : Appends (g.W.Write.contents (writer_of c.loop-at.writer))
    (g.W.Write.contents (writer_of c.write.new.self)) [] = rw c.in-Ok-eq0.field-0-test at
    c.in-Ok-eq0.ensures.bytes in (
      refl,
      (
        take at text,
        drop at text,
        sym (take-append-drop at text),
        rw (← append-nil (take at text)) (Appends-then _ _ _ (take at text) []
            c.loop-at.invariant.so_far none),
      ),
    )

pub returns-then-ne-clause-failed : goal.returns-then-ne-clause-failed
returns-then-ne-clause-failed g c =
    let text = c.args.text.now in
    let at = c.loop-at.at in (
      refl,
      (
        take at text,
        drop at text,
        sym (take-append-drop at text),
        Appends-kept _ _ _ (take at text) c.loop-at.invariant.so_far c.in-Err.ensures.bytes,
      ),
    )
