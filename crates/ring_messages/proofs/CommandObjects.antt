-- A command's object says the command, and no other; it is read back from its text.
use Rattle.std.proofs.Common.{◌≡◌, ℕ, ◌+◌, ◌≤◌, List, [], ◌∷◌, ◌++◌, length, true, Some}
use Rattle.std.proofs.Common.{codes, refl, ap, ◌∙◌, arith}
use Rattle.std.proofs.lemmas.Bool.{and_parts, not-true}
use Rattle.serde_json.specs.Data.{Data, string, no_members, put, depth}
use Rattle.serde_json.specs.Find.{get}
use Rattle.serde_json.specs.Read.{read, max_depth}
use Rattle.serde_json.proofs.Views.{get_member-put, get_member-put_other}
use Rattle.ring_words.specs.declared.command.Command.{Command}
use Rattle.ring_words.specs.declared.command.Act.{Act}
use Rattle.ring_words.specs.declared.command.Act.TheVariants.{Create, OnDevice}
use Rattle.ring_words.specs.declared.command.DeviceAct.TheVariants.{SetWeight}
use Rattle.ring_messages.specs.Fields.{members}
use Rattle.ring_messages.specs.Commands.{act_word, act_fields, act_data, command_data, canonical}
use Rattle.ring_messages.specs.Commands.{IsProperCommand}
use Rattle.ring_messages.specs.Message.{members_count}
use Rattle.ring_messages.specs.Inner.Says.{SaysCommand}
use Rattle.ring_messages.proofs.Acts.{same_act}
use Rattle.ring_messages.proofs.FieldLists.{AreApart, HasMembers, IsNoKey, all_there, are_proper}
use Rattle.ring_messages.proofs.FieldLists.{fields_low, fields_plain, are_short}
use Rattle.ring_messages.proofs.FieldLists.{has_members, still_there}
use Rattle.ring_messages.proofs.Keys.{are_apart, behind, differ, keys, members_of, names}
use Rattle.ring_messages.proofs.Keys.{names_apart, no_name}
use Rattle.ring_messages.proofs.OneValue.{same_name}
use Rattle.ring_messages.proofs.OneText.{IsReadable}
use Rattle.ring_messages.proofs.Plain.{IsPlain, members_plain, put_each, reads_compact}
use Rattle.ring_messages.proofs.Puts.{EachMember, all_low, each_put}

-- ---- what is seen of each command alone

abbrev pub own_keys : List (List ℕ)
own_keys = codes "caller" ∷ codes "number" ∷ []

pub keys_apart : (ring : List ℕ) (a : Act) → are_apart (own_keys ++ keys (act_data ring a)) ≡ true
keys_apart ring (Create n) = refl
keys_apart ring (OnDevice id (SetWeight to)) = refl
keys_apart ring other = refl

fields_apart : (a : Act)
    → are_apart (own_keys ++ codes "do" ∷ codes "ring" ∷ names (act_fields a)) ≡ true
fields_apart (Create n) = refl
fields_apart (OnDevice id (SetWeight to)) = refl
fields_apart other = refl

pub keys_count : (ring : List ℕ) (a : Act)
    → 2 + (2 + length (act_fields a)) ≡ length (own_keys ++ keys (act_data ring a))
keys_count ring (Create n) = refl
keys_count ring (OnDevice id (SetWeight to)) = refl
keys_count ring other = refl

pub count_is : (ring : List ℕ) (a : Act)
    → members_count (act_data ring a) ≡ 2 + length (act_fields a)
count_is ring (Create n) = refl
count_is ring (OnDevice id (SetWeight to)) = refl
count_is ring other = refl

pub short : (a : Act) → are_short (act_fields a) ≡ true
short (Create n) = refl
short (OnDevice id (SetWeight to)) = refl
short other = refl

ordered : (ring : List ℕ) (a : Act)
    → put_each (members_of (act_data ring a)) no_members ≡ members_of (act_data ring a)
ordered ring (Create n) = refl
ordered ring (OnDevice id (SetWeight to)) = refl
ordered ring other = refl

-- ---- the members of a command

-- the keys of a command's fields differ from these and from one another
pub record Apart (a : Act) : Type 0 where
  pub caller : IsNoKey (codes "caller") (act_fields a)
  pub number : IsNoKey (codes "number") (act_fields a)
  pub word : IsNoKey (codes "do") (act_fields a)
  pub ring : IsNoKey (codes "ring") (act_fields a)
  pub fields : AreApart (act_fields a)

-- what holds of the word, the ring and each field holds of each member
pub each_of : (P : List ℕ → Data → Type 0) (ring : List ℕ) (a : Act)
    → P (codes "do") (string (act_word a))
    → P (codes "ring") (string ring) → EachMember P (members (act_fields a))
    → EachMember P (members_of (act_data ring a))
each_of P ring a word name fields =
    each_put P (codes "do") (string (act_word a))
    (put (codes "ring") (string ring) (members (act_fields a))) word
    (each_put P (codes "ring") (string ring) (members (act_fields a)) name fields)

pub has_command : (d : Data) (c : Command) → SaysCommand d c
    → HasMembers (members_of (command_data c)) d
has_command d c h =
    each_of (λ k v. get k d ≡ Some v) c.ring c.act h.act.word h.ring.is
    (has_members d (act_fields c.act) h.act.fields)

low : (c : Command) → depth (command_data c) ≤ max_depth
low c =
    let flat = all_low 2 (members_of (command_data c))
    (each_of (λ k d. depth d ≤ 2) c.ring c.act (omega arith) (omega arith)
    (fields_low (act_fields c.act))) in
    omega (arith, flat)

plain : (c : Command) → IsProperCommand c → IsPlain (command_data c)
plain c h = (
  members_plain (members_of (command_data c))
      (each_of (λ k d. IsPlain d) c.ring c.act tt tt
      (fields_plain (act_fields c.act) (short c.act) h.act)),
  ordered c.ring c.act,
)

read-canonical : (c : Command) → IsProperCommand c → read (canonical c) ≡ Some (command_data c)
read-canonical c h = reads_compact (command_data c) (plain c h) (low c)

-- ---- an object says one command

pub apart : (a : Act) → Apart a
apart a =
    let fs = act_fields a in
    let caller = and_parts _ _ (fields_apart a) in
    let number = and_parts _ _ caller.1 in
    let word = and_parts _ _ number.1 in
    let ring = and_parts _ _ word.1 in
    record {
      caller = no_name (codes "caller") fs
          (behind (codes "caller") (codes "number" ∷ codes "do" ∷ codes "ring" ∷ []) (names fs)
          (not-true _ caller.0));
      number = no_name (codes "number") fs
          (behind (codes "number") (codes "do" ∷ codes "ring" ∷ []) (names fs)
          (not-true _ number.0));
      word = no_name (codes "do") fs
          (behind (codes "do") (codes "ring" ∷ []) (names fs) (not-true _ word.0));
      ring = no_name (codes "ring") fs (not-true _ ring.0);
      fields = names_apart fs ring.1;
    }

pub is_command : (c : Command) → IsProperCommand c → SaysCommand (command_data c) c
is_command c h =
    let fields = act_fields c.act in
    let named = put (codes "ring") (string c.ring) (members fields) in
    let keys = apart c.act in
    record {
      ring = record {
        is = get_member-put_other (codes "ring") (codes "do") (string (act_word c.act)) named
            (differ (codes "ring") (codes "do") refl)
            ∙ get_member-put (codes "ring") (string c.ring) (members fields);
        valid = h.ring;
      };
      act = record {
        word = get_member-put (codes "do") (string (act_word c.act)) named;
        fields = still_there (codes "do") (string (act_word c.act)) named fields keys.word
            (still_there (codes "ring") (string c.ring) (members fields) fields keys.ring
            (all_there fields keys.fields h.act));
      };
    }

pub command_proper : (d : Data) (c : Command) → SaysCommand d c → IsProperCommand c
command_proper d c h =
    record { ring = h.ring.valid; act = are_proper d (act_fields c.act) h.act.fields }

abbrev command : List ℕ → Act → Command
command ring act = record { ring = ring; act = act }

pub same_command : (d : Data) (a b : Command) → SaysCommand d a → SaysCommand d b → a ≡ b
same_command d a b h k =
    ap (λ (r : List ℕ). command r a.act) (same_name _ _ _ _ h.ring k.ring)
    ∙ ap (λ (x : Act). command b.ring x) (same_act d a.act b.act h.act k.act)

pub readable : IsReadable command_data IsProperCommand SaysCommand
readable = record { back = read-canonical; own = is_command; same = same_command }
