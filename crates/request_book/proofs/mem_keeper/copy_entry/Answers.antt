use Rattle.std.proofs.Common.{◌≡◌, ◌∙◌, List, ap, ℕ}
use Rattle.ring_words.specs.declared.request.Key.{Key}
use Rattle.request_book.proofs.mem_keeper.copy_entry.Goals as goal

abbrev key : List ℕ → ℕ → Key
key caller number = record { caller = caller; number = number }

pub returns : goal.returns
returns g c =
    let cloned = c.in_ok-key.ensures.cases in
    let same : c.in_ok-key.key ≡ c.args.entry.now.key =
    ap (λ n. key n c.in_ok-key.key.number) cloned.0
    ∙ ap (λ n. key c.args.entry.now.key.caller n) cloned.1 in
    λ i. record {
      key = same i;
      hour = c.args.entry.now.hour;
      command = c.in_ok-command.ensures i;
      reply = c.args.entry.now.reply;
    }
