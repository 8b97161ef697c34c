use Rattle.std.proofs.Common.{◌∙◌, sym, ap, refl, arith}
use Rattle.std.proofs.KnownBytes.{Keeps-trans}
use denote.Enum.Bare.{differs_true, differs_false}
use Rattle.std.specs.contracts.io.ErrorKind.{the_type}
use Rattle.byte_streams.specs.Counted.{one_more}
use Rattle.byte_streams.proofs.input.read_piece.Goals as goal

pub returns-then-ne : goal.returns-then-ne
returns-then-ne g c =
    let failed = c.in-Err.ensures.failed (λ e. differs_true the_type c.kind.result _ (sym
    c.ne.ensures ∙ c.if-ne.true) (c.kind.ensures ∙ e)) in
    record {
      bound = tt;
      came = tt;
      end = tt;
      failed = (refl, Keeps-trans _ _ _ c.loop-count.invariant.kept c.in-Err.ensures.bytes);
      cause = failed ∙ ap one_more c.loop-count.invariant.same;
      fewer = tt;
    }

pub loop-count-smaller : goal.loop-count-smaller
loop-count-smaller g c =
    let is = sym c.kind.ensures ∙ differs_false the_type tt c.kind.result _ (sym c.ne.ensures ∙
    c.if-ne.false) in
    c.in-Err.ensures.fewer_interrupted is

pub loop-count-preserved : goal.loop-count-preserved
loop-count-preserved g c =
    let is = sym c.kind.ensures ∙ differs_false the_type tt c.kind.result _ (sym c.ne.ensures ∙
    c.if-ne.false) in
    let fewer = c.in-Err.ensures.fewer_interrupted is in
    record {
      kept = Keeps-trans _ _ _ c.loop-count.invariant.kept c.in-Err.ensures.bytes;
      fewer = omega arith;
      same = c.in-Err.ensures.interrupted is ∙ c.loop-count.invariant.same;
    }
