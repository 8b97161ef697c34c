use Rattle.std.proofs.Common.{◌≡◌, ℕ, List, ◌++◌, ◌∙◌, refl, append_assoc, []}
use Rattle.http_messages.specs.Answers.{http_answer}
use Rattle.http_messages.proofs.answer.answer_bytes.Goals as goal

joined : (t0 t1 t2 t3 t4 t5 t6 t7 a b c d e f g : List ℕ) → t0 ≡ [] → t1 ≡ t0 ++ a → t2 ≡ t1 ++ b →
    t3 ≡ t2 ++ c → t4 ≡ t3 ++ d → t5 ≡ t4 ++ e → t6 ≡ t5 ++ f → t7 ≡ t6 ++ g
    → t7 ≡ a ++ b ++ c ++ d ++ e ++ f ++ g
joined t0 t1 t2 t3 t4 t5 t6 t7 a b c d e f g e0 e1 e2 e3 e4 e5 e6 e7 = rw (
  e7,
  e6,
  e5,
  e4,
  e3,
  e2,
  e1,
  e0,
) (simp append_assoc)

pub returns : goal.returns
unfolding http_answer
returns c =
    joined _ _ _ _ _ _ _ _ _ _ _ _ _ _ _ c.new-text.ensures.items c.in_ok-push_status.ensures
    c.in_ok-push_line.ensures c.in_ok-push_length.ensures c.in_ok-push.ensures
    c.in_ok-push-2.ensures c.in_ok-push-3.ensures c.in_ok-extend_from_slice.ensures.items
    ∙ rw (c.name.ensures, c.allow_text.ensures, c.close_text.ensures) refl
