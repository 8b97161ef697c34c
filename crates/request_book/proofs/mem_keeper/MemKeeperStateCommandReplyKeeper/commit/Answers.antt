use Rattle.std.proofs.Common.{◌≡◌, ◌∙◌, Err, Ok, Result, Some, false, refl, sym, true}
use Rattle.std.specs.Prelude.{OnErr, OnOk, is_err}
use Rattle.std.proofs.lemmas.Bool.{false≢true}
use Rattle.request_book.specs.Content.{Content}
use Rattle.request_book.specs.Keeper.{CrashLeaves}
use Rattle.request_book.proofs.mem_keeper.MemKeeperStateCommandReplyKeeper.commit.Goals as goal

leaves : {S C R : Type 0} (content : Content S C R) (P : Content S C R → Type 0) → P content →
    CrashLeaves (λ left. left ≡ Some content) P
leaves content P p = record { something = ∣ (Some content, refl) ∣₁; each = λ left is. rw is p }

where_ok : {T E P : Type 0} (r : Result T E) → is_err r ≡ false → OnOk r P → P
where_ok (Ok value) is p = p
where_ok (Err fault) is p = absurd (false≢true (sym is))

where_err : {T E P : Type 0} (r : Result T E) → is_err r ≡ true → OnErr r P → P
where_err (Ok value) is p = absurd (false≢true is)
where_err (Err fault) is p = p

pub returns : goal.returns
returns g c =
    let pushed = where_ok c.push.result (sym c.is_err.ensures.value ∙ c.if-is_err.false)
    c.push.ensures.ok in
    rw (← c.self.view_is) record {
      commits = λ _. record { appended = pushed; reached = refl; latest = refl };
      left = λ _. leaves _ _ (record { appended = pushed; reached = refl; latest = refl });
      sound = λ _. tt;
      limit = refl;
      cause = refl;
    }

pub returns-then-is_err : goal.returns-then-is_err
returns-then-is_err g c =
    let stays = where_err c.push.result (sym c.is_err.ensures.value ∙ c.if-is_err.true)
    c.push.ensures.err in
    rw (← c.self.view_is, stays) record {
      commits = λ _. refl;
      left = λ _. leaves _ _ refl;
      sound = λ _. tt;
      limit = refl;
      cause = refl;
    }
