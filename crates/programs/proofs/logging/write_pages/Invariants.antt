use Rattle.std.proofs.Common.{◌*◌}
use Rattle.programs.specs.Inner.Pages.{WroteSome, page_size}
use Rattle.programs.proofs.logging.write_pages.Given as goal

-- the pages so far, all of them full
abbrev pub invariant-loop-page : goal.invariant-loop-page
invariant-loop-page g l = WroteSome g.K.Keeper g.W.Write.contents l.form l.from l.fn.keeper l.keeper
    l.fn.writer l.writer (l.page * page_size)
