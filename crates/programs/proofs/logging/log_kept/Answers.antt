use Rattle.std.proofs.lemmas.Result.{on_ok_weaker}
use Rattle.programs.specs.Logging.{TellsLog, TellsSome}
use Rattle.programs.proofs.Logs.{both_of, logged}
use Rattle.programs.proofs.logging.log_kept.Goals as goal

pub returns-clause-written : goal.returns-clause-written
returns-clause-written g c = let wrote = c.write_pages-written in
    on_ok_weaker wrote.result (λ pages. (
      pages.text,
      logged g.K.Keeper c.args.keeper wrote.new.keeper wrote.ensures.sound wrote.ensures.content
          (TellsLog c.args.form c.args.from pages.text) pages.tells,
      pages.wrote,
      pages.same,
      pages.flushed,
    )) wrote.ensures.written

pub returns-clause-broken : goal.returns-clause-broken
returns-clause-broken g c = let wrote = c.write_pages-written in
    both_of wrote.result _ _ _ (λ why fails pages. (
      fails,
      (
        pages.text,
        logged g.K.Keeper c.args.keeper wrote.new.keeper wrote.ensures.sound wrote.ensures.content
            (TellsSome c.args.form c.args.from pages.text) pages.tells,
        pages.wrote,
      ),
    )) wrote.ensures.cause wrote.ensures.broken
