use Rattle.std.proofs.Common.{◌+◌, ◌++◌, ◌<◌, ◌≡◌, ◌≤◌, length, vec_len}
use Rattle.std.specs.Prelude.{nat_lt, vec_capacity}
use Rattle.std.specs.Vec.Iter.{into_iter_items}
use Rattle.request_book.specs.Call.{ClosesAfterFault, FaultsTold, calls_of}
use Rattle.request_book.specs.Keeper.{CrashLeaves}
use Rattle.request_book.specs.Run.{Run}
use Rattle.request_book.proofs.book.Book.run.Given as goal

abbrev pub invariant-loop-delivery : goal.invariant-loop-delivery
invariant-loop-delivery g l =
    let K = g.K.Keeper in
    let old = l.fn.self.keeper in
    let new = l.self.keeper in
    let had_failed = nat_lt 0 (K.fault_count old) in
    let calls = calls_of l.yielded l.answers.items in
    record {
      run : K.sound new → Run (g.M.Machine.step l.fn.self.machine) (K.limit old) had_failed
          (K.content old) calls (K.content new);
      sound : K.sound new → K.sound old;
      machine : l.self.machine ≡ l.fn.self.machine;
      limit : K.limit new ≡ K.limit old;
      faults : FaultsTold (K.fault_count old) (K.fault_count new) calls;
      closed : ClosesAfterFault had_failed calls;
      nothing : 0 < K.fault_count old → l.self ≡ l.fn.self;
      left : K.sound new → K.fault_count old ≡ 0 →
          CrashLeaves (K.may_leave new) (Run (g.M.Machine.step l.fn.self.machine) (K.limit old)
          had_failed (K.content old) calls);
      count : length l.answers.items ≡ length l.yielded;
      all : l.fn.deliveries.items ≡ l.yielded ++ into_iter_items l.delivery-iterator;
      room : vec_len l.answers + length (into_iter_items l.delivery-iterator) ≤ vec_capacity
          l.answers;
    }
