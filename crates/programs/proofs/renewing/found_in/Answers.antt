use Rattle.std.proofs.Common.{refl}
use Rattle.std.proofs.lemmas.Result.{IfErr-weaker, IfOk-weaker}
use Rattle.programs.proofs.renewing.found_in.Goals as goal

pub returns-clause-found : goal.returns-clause-found
returns-clause-found g c = let read = c.rings_and_hour-found in
    IfOk-weaker read.result _ _
    (λ found is_so. record {
      keeper = c.args.keeper;
      later = read.new.keeper;
      opened = refl;
      ended = refl;
      stays_sound = read.ensures.sound;
      stays = read.ensures.content;
      left = read.ensures.left;
      is_so = is_so;
    })
    read.ensures.found

pub returns-clause-fault : goal.returns-clause-fault
returns-clause-fault g c = let read = c.rings_and_hour-found in
    IfErr-weaker read.result _ _
    (λ why failed. (
      failed.0,
      failed.1,
      failed.2,
      record {
        keeper = c.args.keeper;
        later = read.new.keeper;
        opened = refl;
        ended = refl;
        stays_sound = read.ensures.sound;
        stays = read.ensures.content;
        left = read.ensures.left;
        is_so = λ sound. tt;
      },
    ))
    read.ensures.fault
