use Rattle.std.proofs.Common.{inl, inr, refl}
use Rattle.std.proofs.lemmas.Result.{IfErr-weaker, IfOk-weaker}
use Rattle.programs.proofs.showing.told_bytes.Goals as goal

pub returns-clause-shown : goal.returns-clause-shown
returns-clause-shown g c = let kept = c.kept_bytes-bytes in
    IfOk-weaker kept.result _ _
    (λ bytes tells. record {
      keeper = c.args.keeper;
      later = kept.new.keeper;
      clock = c.args.clock;
      opened = refl;
      left = refl;
      stays_sound = kept.ensures.sound;
      stays = kept.ensures.content;
      tells = λ sound. (c.requires.clock, tells sound);
    })
    kept.ensures.shown

pub returns-clause-fault : goal.returns-clause-fault
returns-clause-fault g c = let kept = c.kept_bytes-bytes in
    IfErr-weaker kept.result _ _
    (λ why told. elim told [
      | inl failed ↦ inl (
        failed.0,
        failed.1,
        failed.2,
        record {
          keeper = c.args.keeper;
          later = kept.new.keeper;
          clock = c.args.clock;
          opened = refl;
          left = refl;
          stays_sound = kept.ensures.sound;
          stays = kept.ensures.content;
          tells = λ sound. tt;
        },
      )
      | inr hides ↦ inr (record {
        keeper = c.args.keeper;
        later = kept.new.keeper;
        clock = c.args.clock;
        opened = refl;
        left = refl;
        stays_sound = kept.ensures.sound;
        stays = kept.ensures.content;
        tells = hides;
      })
    ])
    kept.ensures.fault
