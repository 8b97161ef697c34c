use Rattle.line_api.proofs.Asking.{no_size}
use Rattle.line_api.proofs.questions.log_part.Goals as goal

pub returns-in_default : goal.returns-in_default
returns-in_default c = λ x asks. c.in_default.ensures.none x.0 asks.size asks.fits asks.is

pub returns-in-Ok : goal.returns-in-Ok
returns-in-Ok c =
    let found = c.in-Some.ensures.found in
    record {
      size = c.in-Some.size.now;
      is = found.1;
      fits = found.0;
      spelled = c.in-Ok.ensures;
    }

pub returns-in-Err : goal.returns-in-Err
returns-in-Err c =
    let found = c.in-Some.ensures.found in
    no_size c.args.text.now c.in-Some.size.now c.in-Some.from c.in-Err.fault found.0 found.1
    c.in-Err.ensures
