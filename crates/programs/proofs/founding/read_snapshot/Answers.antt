use Rattle.std.proofs.Common.{inr, refl}
use Rattle.programs.proofs.Telling.{one_text}
use Rattle.programs.proofs.founding.read_snapshot.Goals as goal

pub returns-clause-failed : goal.returns-clause-failed
returns-clause-failed g c =
    let line = c.in_ok-line-in-Err-Bad.ensures in (
      inr (inr (
        refl,
        (
          line.0,
          record {
            text = c.in_ok-text.text.items;
            held = (c.in_ok-text.ensures.text, c.in_ok-text.ensures.short);
            none = rw (← c.deref.ensures.value) (rw c.in-Err-Bad.field-0-is at c.in-Err-Bad.ensures);
            line = rw (← c.deref-in-Err-Bad.ensures.value) line.1;
          },
        ),
      )),
      one_text g.E.Write.contents c.args.errors.now c.tell_text.new.errors _
          (rw (← line.2, ← c.deref-in-Err-Bad-2.ensures) c.tell_text.ensures),
    )
