use Rattle.std.proofs.Common.{◌≡◌, ◌<◌, Bool, true, false, not, sym, refl, arith, ◌∙◌, ap, cond}
use Rattle.std.proofs.lemmas.Bool.Decides.{nat_tests}
use denote.Enum.Bare.{differs_true, differs_false}
use Rattle.std.specs.contracts.io.ErrorKind.{the_type}
use Rattle.byte_streams.proofs.counted.CountedWriterWrite.write.Goals as goal
use Rattle.byte_streams.proofs.counted.CountedWriterWrite.write.Goals.{in-Ok+then-count-eq0, in-Ok+else-count-eq0, in-Err}

pub returns-then-has_failed : goal.returns-then-has_failed
returns-then-has_failed g c =
    let counted = c.saturating_add-self-then-has_failed.ensures in
    let left = c.if-self-eq0.false in
    elim c.match-result.branch [
      | in-Ok+then-count-eq0 w ↦
          let full : not w.is_empty.result ≡ true = sym w.has_failed-is ∙ c.if-has_failed.true in
          rw w.in-Ok.is record {
            bound = rw w.in-Ok.is at c.write-result.ensures.bound;
            bytes = rw w.in-Ok.is at c.write-result.ensures.bytes;
            some = λ more. absurd (omega arith);
            none = λ _ _. counted;
            empty = λ none. let wrong = rw (w.is_empty.ensures, none) at full in cc;
            interrupted = tt;
            failed = tt;
            fewer = omega arith;
            fewer_interrupted = tt;
            unflushed = λ e. (cc);
          }
      | in-Ok+else-count-eq0 w ↦ absurd (grind (arith, nat_tests))
      | in-Err w ↦
          rw w.in-Err.is record {
            bound = tt;
            bytes = rw w.in-Err.is at c.write-result.ensures.bytes;
            some = tt;
            none = tt;
            empty = tt;
            interrupted = λ e. absurd (differs_true the_type w.kind.result _ (sym w.ne-has_failed.ensures ∙ sym w.has_failed-is ∙ c.if-has_failed.true) (w.kind.ensures ∙ e));
            failed = λ _. counted;
            fewer = tt;
            fewer_interrupted = λ _. omega arith;
            unflushed = λ e. (cc);
          }
    ]

pub returns-else-has_failed : goal.returns-else-has_failed
returns-else-has_failed g c =
    let left = c.if-self-eq0.false in
    elim c.match-result.branch [
      | in-Ok+then-count-eq0 w ↦
          let full : not w.is_empty.result ≡ false = sym w.has_failed-is ∙ c.if-has_failed.false in
          rw w.in-Ok.is record {
            bound = rw w.in-Ok.is at c.write-result.ensures.bound;
            bytes = rw w.in-Ok.is at c.write-result.ensures.bytes;
            some = λ _. refl;
            none = λ _ some. absurd (grind (arith, nat_tests));
            empty = λ _. refl;
            interrupted = tt;
            failed = tt;
            fewer = omega arith;
            fewer_interrupted = tt;
            unflushed = λ e. (cc);
          }
      | in-Ok+else-count-eq0 w ↦
          rw w.in-Ok.is record {
            bound = rw w.in-Ok.is at c.write-result.ensures.bound;
            bytes = rw w.in-Ok.is at c.write-result.ensures.bytes;
            some = λ _. refl;
            none = λ e. absurd (w.if-count-eq0.false e);
            empty = λ _. refl;
            interrupted = tt;
            failed = tt;
            fewer = omega arith;
            fewer_interrupted = tt;
            unflushed = λ e. (cc);
          }
      | in-Err w ↦
          rw w.in-Err.is record {
            bound = tt;
            bytes = rw w.in-Err.is at c.write-result.ensures.bytes;
            some = tt;
            none = tt;
            empty = tt;
            interrupted = λ _. refl;
            failed = λ other. absurd (other (sym w.kind.ensures ∙ differs_false the_type tt w.kind.result _ (sym w.ne-has_failed.ensures ∙ sym w.has_failed-is ∙ c.if-has_failed.false)));
            fewer = tt;
            fewer_interrupted = λ _. omega arith;
            unflushed = λ e. (cc);
          }
    ]
