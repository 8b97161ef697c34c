use Rattle.std.proofs.Common.{◌++◌, ◌<◌, ◌∷◌, ◌∙◌, ◌≡◌, [], ap, arith, refl, subst, sym}
use Rattle.std.proofs.lemmas.Grind.{common_steps}
use Rattle.std.specs.Prelude.{List}
use Rattle.ring_words.specs.declared.request.Delivery.{Delivery}
use Rattle.request_book.specs.Call.{calls_of}
use Rattle.request_book.specs.Run.{AnswersAlike}
use Rattle.request_book.proofs.Alike.{alike}
use Rattle.request_book.proofs.Calls.{closed_by, closes-none, closes_more, faults_more}
use Rattle.request_book.proofs.Runs.{leaves_map, left_more, other_step, run_left, run_more}
use Rattle.request_book.proofs.Runs.{run_none}
use Rattle.request_book.proofs.book.Book.run.Goals as goal

pub loop-delivery-init : goal.loop-delivery-init
loop-delivery-init g c =
    let machine = g.M.Machine.step c.args.self.now.machine in
    record {
      run = λ s. run_none machine _ _ _;
      sound = λ s. s;
      machine = refl;
      limit = refl;
      faults = refl;
      closed = closes-none _;
      nothing = λ h. refl;
      left = λ s z. run_left machine _ _ _ _ (g.met.K.Keeper.settled c.args.self.now.keeper s z);
      count = grind (arith, common_steps);
      all = grind (arith, common_steps);
      room = grind (arith, common_steps);
    }

pub loop-delivery-preserved : goal.loop-delivery-preserved
loop-delivery-preserved g c =
    let K = g.K.Keeper in
    let step = g.M.Machine.step c.args.self.now.machine in
    let old = c.args.self.now.keeper in
    let mid = c.loop-delivery.self.keeper in
    let new = c.answer-answer.new.self.keeper in
    let ds = c.loop-delivery.yielded in
    let sofar = c.loop-delivery.answers.items in
    let later = c.push.new.self.items in
    let d = c.in-Some.delivery in
    let a = c.answer-answer.result in
    let was = c.loop-delivery.invariant in
    let told = c.answer-answer.ensures in
    let more : later ≡ sofar ++ a ∷ [] = grind (arith, common_steps) in
    let now_closed = closed_by (K.fault_count old) (K.fault_count mid) (calls_of ds sofar)
    was.faults in
    let same = ap g.M.Machine.step was.machine in
    record {
      run = λ s. run_more step (K.limit old) _ (K.content old) ds sofar later (K.limit mid) _
          (K.content mid) d a (K.content new) was.count more was.limit now_closed
          (was.run (told.stays_sound s)) (other_step _ step _ _ _ _ _ same (told.called s));
      sound = λ s. was.sound (told.stays_sound s);
      machine = told.machine ∙ was.machine;
      limit = told.limits ∙ was.limit;
      faults = faults_more (K.fault_count old) (K.fault_count mid) (K.fault_count new) ds sofar
          later d a was.count more was.faults told.told;
      closed = closes_more (K.fault_count old) (K.fault_count mid) ds sofar later d a was.count more
          was.faults was.closed told.closed;
      nothing = λ h. told.nothing (subst (λ b. 0 < K.fault_count b.keeper) (sym (was.nothing h)) h)
          ∙ was.nothing h;
      left = λ s z. left_more step (K.limit old) _ (K.content old) ds sofar later (K.limit mid)
          (K.fault_count mid) (K.content mid) d a (K.may_leave mid) (K.may_leave new) was.count more
          was.limit now_closed (was.run (told.stays_sound s)) (was.left (told.stays_sound s) z)
          (λ none. leaves_map _ _ _ (λ left. other_step _ step _ _ _ _ left same)
          (told.left s none)) (λ h. ap (λ b. K.may_leave b.keeper) (sym (told.nothing h)))
          told.closed;
      count = grind (arith, common_steps);
      all = grind (arith, common_steps);
      room = grind (arith, common_steps);
    }

pub returns-clause-alike : goal.returns-clause-alike
returns-clause-alike g c = λ s.
    let whole : c.loop-delivery.yielded ≡ c.args.deliveries.items = grind (arith, common_steps) in
    subst (λ (ds : List (Delivery _)). AnswersAlike (calls_of ds c.loop-delivery.answers.items))
    whole
    (alike (g.M.Machine.step c.args.self.now.machine) (g.K.Keeper.limit c.args.self.now.keeper) _
    (g.K.Keeper.content c.args.self.now.keeper) (calls_of c.loop-delivery.yielded
    c.loop-delivery.answers.items) (g.K.Keeper.content c.loop-delivery.self.keeper)
    (c.loop-delivery.invariant.run s))

pub returns-in_err-answers-clause-settled : goal.returns-in_err-answers-clause-settled
returns-in_err-answers-clause-settled g c = λ s z. g.met.K.Keeper.settled _ s z

pub returns-clause-settled : goal.returns-clause-settled
returns-clause-settled g c = λ s z. g.met.K.Keeper.settled _ s z

pub returns-clause-run : goal.returns-clause-run
returns-clause-run g c = grind (arith, common_steps)

pub returns-clause-count : goal.returns-clause-count
returns-clause-count g c = grind (arith, common_steps)

pub returns-clause-faults : goal.returns-clause-faults
returns-clause-faults g c = grind (arith, common_steps)

pub returns-clause-closed : goal.returns-clause-closed
returns-clause-closed g c = grind (arith, common_steps)

pub returns-clause-left : goal.returns-clause-left
returns-clause-left g c = grind (arith, common_steps)
