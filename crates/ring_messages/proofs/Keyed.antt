-- What is written of a request is read back as its key and its command.
use Rattle.std.proofs.Common.{◌≡◌, ℕ, ◌+◌, ◌^◌, ◌<◌, ◌≤◌, List, Some, codes, refl, ◌∙◌, arith}
use Rattle.std.specs.Prelude.{IsTrue, IsUtf8}
use Rattle.serde_json.specs.Data.{Data, Members, no_members, string, put, depth}
use Rattle.serde_json.specs.Events.{members_len}
use Rattle.serde_json.specs.Read.{read, max_depth}
use Rattle.serde_json.proofs.Views.{get_member-put, get_member-put_other}
use Rattle.ring_words.specs.Limits.{greatest_long}
use Rattle.ring_words.specs.Texts.{is_label}
use Rattle.ring_words.specs.declared.request.Key.{Key}
use Rattle.ring_words.specs.declared.command.Act.{Act}
use Rattle.ring_words.specs.declared.command.Act.TheVariants.{Create, OnDevice}
use Rattle.ring_words.specs.declared.command.DeviceAct.TheVariants.{SetWeight}
use Rattle.ring_words.specs.declared.command.Command.{Command}
use Rattle.ring_messages.specs.Commands.{act_data, act_fields, command_data, IsProperCommand}
use Rattle.ring_messages.specs.Fields.{whole}
use Rattle.ring_messages.specs.Message.{IsDelivery, IsMessage, keyed_members, members_count}
use Rattle.ring_messages.specs.Message.{message_data, message_text}
use Rattle.ring_messages.proofs.CommandObjects.{each_of, short}
use Rattle.ring_messages.proofs.FieldLists.{fields_low, fields_plain}
use Rattle.ring_messages.proofs.Keys.{differ, members_of}
use Rattle.ring_messages.proofs.Plain.{IsPlain, members_plain, put_each, reads_compact}
use Rattle.ring_messages.proofs.Puts.{EachMember, all_low, each_put}

-- ---- what is seen of each command alone

abbrev key : List ℕ → ℕ → Key
key caller number = record { caller = caller; number = number }

-- the members of what is written of a request that does this to this ring
abbrev members_keyed : List ℕ → ℕ → List ℕ → Act → Members
members_keyed caller number ring a =
    keyed_members (key caller number) (members_of (act_data ring a))

ordered : (caller : List ℕ) (number : ℕ) (ring : List ℕ) (a : Act)
    → put_each (members_keyed caller number ring a) no_members
    ≡ members_keyed caller number ring a
ordered caller number ring (Create n) = refl
ordered caller number ring (OnDevice id (SetWeight to)) = refl
ordered caller number ring other = refl

count_keyed : (caller : List ℕ) (number : ℕ) (ring : List ℕ) (a : Act)
    → members_len (members_keyed caller number ring a) ≡ 2 + members_count (act_data ring a)
count_keyed caller number ring (Create n) = refl
count_keyed caller number ring (OnDevice id (SetWeight to)) = refl
count_keyed caller number ring other = refl

-- ---- the members of a request

abbrev own : Command → Members
own c = members_of (command_data c)

abbrev numbered : Key → Command → Members
numbered k c = put (codes "number") (whole k.number) (own c)

abbrev all : Key → Command → Members
all k c = keyed_members k (own c)

-- what holds of who asks, of the number and of each member of the command holds of each member
each_keyed : (P : List ℕ → Data → Type 0) (k : Key) (c : Command)
    → P (codes "caller") (string k.caller) → P (codes "number") (whole k.number)
    → EachMember P (own c) → EachMember P (all k c)
each_keyed P k c caller number members =
    each_put P (codes "caller") (string k.caller) (numbered k c) caller
    (each_put P (codes "number") (whole k.number) (own c) number members)

low : (k : Key) (c : Command) → depth (message_data k c) ≤ max_depth
low k c =
    let flat = all_low 2 (all k c)
    (each_keyed (λ n d. depth d ≤ 2) k c (omega arith) (omega arith)
    (each_of (λ n d. depth d ≤ 2) c.ring c.act (omega arith) (omega arith)
    (fields_low (act_fields c.act)))) in
    omega (arith, flat)

plain : (k : Key) (c : Command) → k.number ≤ greatest_long → IsProperCommand c
    → IsPlain (message_data k c)
plain k c fits h =
    let wide : k.number < 2 ^ 64 = omega (arith, fits) in (
      members_plain (all k c)
          (each_keyed (λ n d. IsPlain d) k c tt wide
          (each_of (λ n d. IsPlain d) c.ring c.act tt tt
          (fields_plain (act_fields c.act) (short c.act) h.act))),
      ordered k.caller k.number c.ring c.act,
    )

-- ---- and back

read_message : (k : Key) (c : Command) → k.number ≤ greatest_long → IsProperCommand c
    → read (message_text k c) ≡ Some (message_data k c)
read_message k c fits h = reads_compact (message_data k c) (plain k c fits h) (low k c)

says_both : (k : Key) (c : Command) → IsTrue (is_label k.caller) → k.number ≤ greatest_long
    → IsProperCommand c → IsDelivery (message_data k c) k c
says_both k c named fits h = record {
  caller = record {
    is = get_member-put (codes "caller") (string k.caller) (numbered k c);
    valid = named;
  };
  number = record {
    is = get_member-put_other (codes "number") (codes "caller") (string k.caller) (numbered k c)
        (differ (codes "number") (codes "caller") refl)
        ∙ get_member-put (codes "number") (whole k.number) (own c);
    above = omega arith;
    below = fits;
  };
  proper = h;
  members = λ name no_caller no_number.
      get_member-put_other name (codes "caller") (string k.caller) (numbered k c) no_caller
      ∙ get_member-put_other name (codes "number") (whole k.number) (own c) no_number;
  count = count_keyed k.caller k.number c.ring c.act;
}

-- the text of a request is a message of its key and its command
pub is_message : (k : Key) (c : Command) → IsTrue (is_label k.caller) → k.number ≤ greatest_long
    → IsProperCommand c → IsUtf8 (message_text k c) → IsMessage (message_text k c) k c
is_message k c named fits h text = record {
  utf8 = text;
  value = message_data k c;
  is = read_message k c fits h;
  delivery = says_both k c named fits h;
}
