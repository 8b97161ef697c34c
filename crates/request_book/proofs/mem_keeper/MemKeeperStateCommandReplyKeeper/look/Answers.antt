use Rattle.std.proofs.Common.{◌∙◌, ap, refl, sym}
use Rattle.std.specs.Option.{option_copied}
use Rattle.request_book.specs.Inner.Only.{is_only}
use Rattle.request_book.proofs.mem_keeper.MemKeeperStateCommandReplyKeeper.look.Goals as goal
use Rattle.request_book.proofs.mem_keeper.MemKeeperStateCommandReplyKeeper.look.Goals.{in-None, in-Some+then-same, in-Some+else-same}

pub returns-clause-found : goal.returns-clause-found
returns-clause-found g c =
    elim c.match-find.branch [
      | in-None w ↦
          let none = sym c.find.ensures ∙ ap option_copied w.in-None.is in
          rw (w.result-is, ← c.self.view_is) (λ _. rw none tt)
      | in-Some+then-same w ↦
          let some = sym c.find.ensures ∙ ap option_copied w.in-Some.is in
          rw (w.result-is, ← c.self.view_is) (λ _. rw some (w.same.ensures.0 w.if-same.true, refl))
      | in-Some+else-same w ↦
          let some = sym c.find.ensures ∙ ap option_copied w.in-Some.is in
          let other = w.if-same.false in
          rw (w.result-is, ← c.self.view_is) (λ _. rw some (λ e. let same = w.same.ensures.1 e in cc))
    ]

pub returns-clause-content : goal.returns-clause-content
returns-clause-content g c = λ _. refl

pub returns-clause-left : goal.returns-clause-left
returns-clause-left g c = λ _. is_only _ c.args.self.now.0 refl (λ left same. same)
