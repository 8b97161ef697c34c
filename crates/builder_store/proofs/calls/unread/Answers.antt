use Rattle.builder_store.proofs.calls.unread.Goals as goal

pub returns-in-Bad : goal.returns-in-Bad
returns-in-Bad c = let is = c.in-Bad.is in (λ e. (cc), λ e. (cc))
