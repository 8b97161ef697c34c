use Rattle.std.proofs.Common.{◌≡◌, sym}
use Rattle.programs.proofs.Services.{input_served}
use Rattle.programs.proofs.serving.loop_input.Goals as goal

pub returns : goal.returns
returns g c = let looped = c.loop_over-looped in
    input_served g.K.Keeper (λ k. k ≡ c.args.keeper) (λ k. k ≡ c.into_keeper.result)
    c.args.given c.args.names
    (c.new_clock-clock.result, c.open_book-book.result) (looped.new.clock, looped.new.book)
    c.new_clock-clock.ensures c.open_book-book.ensures (sym c.into_keeper.ensures)
    looped.ensures.safe
    _ g.W.Write.contents c.args.writer.now looped.new.writer looped.result
    looped.ensures.served looped.ensures.failed looped.ensures.few looped.ensures.ok looped.ensures.flushed
