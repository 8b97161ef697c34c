use Rattle.std.proofs.Common.{inl, inr, refl}
use Rattle.programs.proofs.service.serve_kept.Goals as goal

pub returns-in-Ok : goal.returns-in-Ok
returns-in-Ok g c =
    let served = c.serve_door-end.ensures in (
      inr (
        c.serve_door-end.result.0,
        c.end_fault.ensures,
        record {
          keeper = c.args.keeper;
          first = (
            c.begin.new.clock,
            record { machine = served.machine; keeper = c.begin.new.keeper },
          );
          last = served.last;
          opened = refl;
          asked = c.begin.ensures.asked;
          judged = c.in-Ok.ensures.begun.0;
          full = served.full;
          door = c.in-Ok.door;
          later = served.later;
          port = c.in-Ok.ensures.port;
          served = served.served;
          safe = served.safe;
          left = served.left;
        },
      ),
      (c.begin.new.errors, c.in-Ok.ensures.begun.1, refl),
    )

pub returns-in-Err : goal.returns-in-Err
returns-in-Err g c = (
  inl (record {
    keeper = c.args.keeper;
    later = c.begin.new.keeper;
    opened = refl;
    asked = c.begin.ensures.asked;
    failed = c.in-Err.ensures.failed.0;
    left = refl;
  }),
  c.in-Err.ensures.failed.1,
)
