use Prim.Native.Nat.{max}
use Rattle.std.proofs.Common.{◌≡◌, ◌⊎◌, ⊎_elim, inl, inr, ℕ, ◌+◌, ◌<◌, ◌≤◌, ap, ◌∙◌, arith}
use Rattle.std.proofs.lemmas.Bool.{cases_lt}
use Rattle.ring_founding.proofs.Founded.{next_more}
use Rattle.ring_founding.proofs.founding.next_number.Goals as goal

-- The greater of two numbers is one of them, and neither is above it.
of_both : (n k m : ℕ) → m ≡ max n (k + 1) → (n ≤ m) × (k < m) × ((m ≡ n) ⊎ (m ≡ k + 1))
of_both n k m is = (
  omega arith,
  omega arith,
  ⊎_elim (λ (less : n < k + 1). inr (omega arith)) (λ (more : k + 1 ≤ n). inl (omega arith))
      (cases_lt n (k + 1)),
)

pub loop-device-preserved : goal.loop-device-preserved
loop-device-preserved c =
    let x = c.device-item.result in
    let n = c.loop-device.next in
    let m = c.max-next.result in
    let next = of_both n x.id m (c.max-next.ensures ∙ ap (λ (k : ℕ). max n (k + 1)) c.from.ensures)
    in
    let is = next_more c.args.devices.now c.loop-device.device-index x n m (omega arith)
    c.device-item.is c.loop-device.invariant.beyond c.loop-device.invariant.reached
    c.loop-device.invariant.none next.0 next.1 next.2 in
    record { beyond = is.beyond; reached = λ _. is.reached; none = λ first. absurd (omega arith) }
