use Rattle.std.proofs.Common.{◌≡◌, ◌↔◌, ℕ, List, Bool, IsTrue, sym, ap, ◌∙◌}
use Rattle.std.specs.Cmp.Lexicographic.{same_text}
use Rattle.ring_words.specs.declared.command.Act.{Act}
use Rattle.ring_words.specs.declared.command.Command.{Command}
use Rattle.ring_words.proofs.command.Command.is.Goals as goal

abbrev command_of : List ℕ → Act → Command
command_of ring act = record { ring = ring; act = act }

-- Of two commands for one ring, the acts tell whether they are one.
one_command : (a b : Command) (r : Bool) → a.ring ≡ b.ring → (IsTrue r ↔ (a.act ≡ b.act)) →
    (IsTrue r ↔ (a ≡ b))
one_command a b r ring acts = (
  λ is. ap (λ (x : List ℕ). command_of x a.act) ring ∙ ap (λ (x : Act). command_of b.ring x)
      (acts.0 is),
  λ one. acts.1 (ap (λ (x : Command). x.act) one),
)

pub returns-then-eq : goal.returns-then-eq
returns-then-eq c = one_command c.args.self.now c.args.other.now c.is.result
    (same_text _ _ (sym c.if-eq.true ∙ c.eq.ensures)) c.is.ensures
