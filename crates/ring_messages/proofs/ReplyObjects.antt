-- A reply's object says the reply, and no other; it is read back from its text.
use Rattle.std.proofs.Common.{nat_eq, true, eq-eqb, ◌≡◌, ℕ, ◌^◌, ◌<◌, ◌≤◌, Option, Some, None}
use Rattle.std.proofs.Common.{refl, sym, ap, ap₂, ◌∙◌, arith}
use Rattle.serde_json.specs.Data.{Data, number, unsigned, depth}
use Rattle.serde_json.specs.Read.{read, max_depth}
use Rattle.ring_words.specs.declared.command.Refusal.{Refusal}
use Rattle.ring_words.specs.declared.command.Refusal.TheVariants.{RowRefused}
use Rattle.ring_words.specs.declared.command.RowCause.{RowCause}
use Rattle.ring_words.specs.declared.command.RowCause.TheVariants as cause
use Rattle.ring_words.specs.declared.command.Reply.{Reply}
use Rattle.ring_words.specs.declared.command.Reply.TheVariants as reply
use Rattle.ring_messages.specs.Replies.{cause_rule, refusal_data}
use Rattle.ring_messages.specs.Replies.{refusal_rule, reply_data}
use Rattle.ring_messages.specs.Replies.{reply_text, IsProperRefusal, IsProperReply}
use Rattle.ring_messages.specs.Inner.Says.{SaysRefusal, SaysReply, SaysWhy}
use Rattle.ring_messages.proofs.Dones.{done_proper, done_reads, done_says, no_rule, same_done}
use Rattle.ring_messages.proofs.OneValue.{same_number_read}
use Rattle.ring_messages.proofs.OneText.{IsReadable}
use Rattle.ring_messages.proofs.Plain.{IsPlain, reads_compact}

-- ---- one object says one refusal

rule_injective : (m n : ℕ) → Some (number (unsigned m)) ≡ Some (number (unsigned n)) → m ≡ n
rule_injective m n e = cc

same_cause : (b c : RowCause) → nat_eq (cause_rule b) (cause_rule c) ≡ true → b ≡ c
same_cause cause.DeviceRemoved cause.DeviceRemoved rule = cc
same_cause b cause.DeviceRemoved rule = cc
same_cause b c rule = cc

same_row_refusal : (d : Data) (m n : ℕ) (b c : RowCause) → SaysWhy d (RowRefused m b)
    → SaysWhy d (RowRefused n c) → RowRefused m b ≡ RowRefused n c
same_row_refusal d m n b c h k =
    let rules : cause_rule b ≡ cause_rule c =
    rule_injective (cause_rule b) (cause_rule c) (sym h.1 ∙ k.1) in
    ap₂ RowRefused (same_number_read _ _ _ _ _ _ _ h.0 k.0)
    (same_cause b c (eq-eqb (cause_rule b) (cause_rule c) rules))

same_by_rule : (d : Data) (r s : Refusal) → nat_eq (refusal_rule r) (refusal_rule s) ≡ true
    → SaysWhy d r → SaysWhy d s → r ≡ s
same_by_rule d (RowRefused m b) (RowRefused n c) rule h k = same_row_refusal d m n b c h k
same_by_rule d r (RowRefused n c) rule h k = cc
same_by_rule d r s rule h k = cc

same_refusal : (d : Data) (r s : Refusal) → SaysRefusal d r → SaysRefusal d s → r ≡ s
same_refusal d r s h k =
    let rules : refusal_rule r ≡ refusal_rule s =
    rule_injective (refusal_rule r) (refusal_rule s) (sym h.rule ∙ k.rule) in
    same_by_rule d r s (eq-eqb (refusal_rule r) (refusal_rule s) rules) h.why k.why

none_is_some : (f : Option Data) (d : Data) → f ≡ None → f ≡ Some d → ⊥
none_is_some f d e i = cc

same_reply : (d : Data) (a b : Reply) → SaysReply d a → SaysReply d b → a ≡ b
same_reply d (reply.Done x) (reply.Done y) h k = ap reply.Done (same_done d x y h.1 k.1)
same_reply d (reply.Done x) (reply.Refused s) h k = absurd (none_is_some _ _ h.0 k.rule)
same_reply d (reply.Refused r) (reply.Done y) h k = absurd (none_is_some _ _ k.0 h.rule)
same_reply d (reply.Refused r) (reply.Refused s) h k = ap reply.Refused (same_refusal d r s h k)

-- ---- what is written says the reply, and is read back

refusal_says : (r : Refusal) → IsProperRefusal r → SaysRefusal (refusal_data r) r
refusal_says (RowRefused row why) h =
    record {
      rule = refl;
      why =
          (record { is = refl; above = omega arith; below = omega arith }, refl);
    }
refusal_says other h = record { rule = refl; why = tt }

says : (r : Reply) → IsProperReply r → SaysReply (reply_data r) r
says (reply.Done x) h = (no_rule x, done_says x h)
says (reply.Refused r) h = refusal_says r h

refusal_proper : (d : Data) (r : Refusal) → SaysRefusal d r → IsProperRefusal r
refusal_proper d (RowRefused row why) h = omega (arith, h.why.0.below)
refusal_proper d other h = tt

pub reply_proper : (d : Data) (r : Reply) → SaysReply d r → IsProperReply r
reply_proper d (reply.Done x) h = done_proper d x h.1
reply_proper d (reply.Refused r) h = refusal_proper d r h

cause_below : (c : RowCause) → cause_rule c < 2 ^ 64
cause_below cause.DeviceRemoved = omega arith
cause_below other = omega arith

refusal_plain : (r : Refusal) → IsProperRefusal r → IsPlain (refusal_data r)
refusal_plain (RowRefused row why) h = ((cause_below why, (tt, (h, (omega arith, tt)))), refl)
refusal_plain other h = ((tt, (omega arith, tt)), refl)

refusal_low : (r : Refusal) → depth (refusal_data r) ≤ max_depth
refusal_low (RowRefused row why) = omega arith
refusal_low other = omega arith

read-reply_text : (r : Reply) → IsProperReply r → read (reply_text r) ≡ Some (reply_data r)
read-reply_text (reply.Done x) h = done_reads x h
read-reply_text (reply.Refused r) h = reads_compact (refusal_data r) (refusal_plain r h)
    (refusal_low r)

pub readable : IsReadable reply_data IsProperReply SaysReply
readable = record { back = read-reply_text; own = says; same = same_reply }
