use Rattle.std.proofs.Common.{◌≡◌, ◌+◌, ◌*◌, ◌<◌, ◌≤◌, [], ℕ, arith, inl, refl, subst}
use Rattle.std.proofs.lemmas.Result.{err_from_is_err_and}
use Rattle.byte_streams.proofs.KnownLemmas.{Appends-none}
use Rattle.ring_words.specs.Limits.{long_count}
use Rattle.programs.specs.Inner.Pages.{WroteSome, page_size}
use Rattle.programs.proofs.Logs.{breaks_here, ends_here, ends_there, fails_there, goes_on}
use Rattle.programs.proofs.logging.write_pages.Goals as goal

pub loop-page-init : goal.loop-page-init
loop-page-init g c = record {
  sound = λ s. s;
  stays = λ s. refl;
  unfailed = c.requires;
  text = [];
  tells = λ s. refl;
  full = λ s. refl;
  wrote = Appends-none _;
  same = refl;
  flushed = inl refl;
}

pub loop-page-preserved : goal.loop-page-preserved
loop-page-preserved g c =
    let n = c.loop-page.page * page_size in
    let next : n + page_size ≡ (c.loop-page.page + 1) * page_size = omega arith in
    subst (λ (m : ℕ). WroteSome g.K.Keeper g.W.Write.contents c.args.form c.args.from
    c.args.keeper.now c.write_page.new.keeper c.args.writer.now c.write_page.new.writer m) next
    (goes_on g.K.Keeper g.W.Write.contents c.args.form c.args.from c.args.keeper.now
    c.loop-page.keeper c.write_page.new.keeper c.args.writer.now c.loop-page.writer
    c.write_page.new.writer n (c.args.from + n) refl c.loop-page.invariant
    c.write_page.ensures.sound c.write_page.ensures.content c.in_ok-is_last.is_last
    c.in_ok-is_last.ensures.written c.if-is_last.false c.in_ok-is_last.ensures.whole)

pub returns-then-is_last-clause-written : goal.returns-then-is_last-clause-written
returns-then-is_last-clause-written g c =
    let n = c.loop-page.page * page_size in
    ends_here g.K.Keeper g.W.Write.contents c.args.form c.args.from c.args.keeper.now
    c.loop-page.keeper c.write_page.new.keeper c.args.writer.now c.loop-page.writer
    c.write_page.new.writer n (c.args.from + n) refl c.loop-page.invariant
    c.write_page.ensures.sound c.write_page.ensures.content c.in_ok-is_last.is_last
    c.in_ok-is_last.ensures.written c.if-is_last.true

pub returns-then-page-from-clause-written : goal.returns-then-page-from-clause-written
returns-then-page-from-clause-written g c =
    let n = c.loop-page.page * page_size in
    let beyond : long_count ≤ c.args.from + n = omega (arith, c.if-page-from.true) in
    let some : 0 < n = omega (arith, c.if-page-from.true) in
    ends_there g.K.Keeper g.W.Write.contents c.args.form c.args.from c.args.keeper.now
    c.loop-page.keeper c.args.writer.now c.loop-page.writer n some beyond c.loop-page.invariant

pub returns-clause-written : goal.returns-clause-written
returns-clause-written g c =
    let n = c.loop-page.page * page_size in
    let beyond : long_count ≤ c.args.from + n = omega (arith, c.loop-page-test.false) in
    let some : 0 < n = omega (arith, c.loop-page-test.false) in
    ends_there g.K.Keeper g.W.Write.contents c.args.form c.args.from c.args.keeper.now
    c.loop-page.keeper c.args.writer.now c.loop-page.writer n some beyond c.loop-page.invariant

pub returns-in_err-is_last-clause-broken : goal.returns-in_err-is_last-clause-broken
returns-in_err-is_last-clause-broken g c =
    let n = c.loop-page.page * page_size in
    let p = err_from_is_err_and c.from_residual.result c.from_residual.ensures.1 in
    rw (p.1) (breaks_here g.K.Keeper g.W.Write.contents c.args.form c.args.from c.args.keeper.now
    c.loop-page.keeper c.write_page.new.keeper c.args.writer.now c.loop-page.writer
    c.write_page.new.writer n (c.args.from + n) refl c.loop-page.invariant
    c.write_page.ensures.sound c.write_page.ensures.content c.in_err-is_last.ensures.broken)

pub returns-in_err-is_last-clause-cause : goal.returns-in_err-is_last-clause-cause
returns-in_err-is_last-clause-cause g c =
    let p = err_from_is_err_and c.from_residual.result c.from_residual.ensures.1 in
    rw (p.1, p.2) (fails_there g.K.Keeper c.args.writer.now c.loop-page.writer
    c.write_page.new.writer c.in_err-is_last.field-0.0 c.write_page.new.keeper
    c.loop-page.invariant.same c.in_err-is_last.ensures.cause)
