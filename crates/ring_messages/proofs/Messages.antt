-- A message says what its command's text says, and has no keys but those and its own two.
use Rattle.std.proofs.Common.{◌≡◌, ℕ, ◌+◌, List, [], ◌∷◌, false, codes, refl, sym, ap, subst, ◌∙◌}
use Rattle.std.specs.Prelude.{◌≢◌, is_some}
use Rattle.std.specs.List.{list_any, AllByRecursion}
use Rattle.std.proofs.lemmas.Option.{same_Some}
use Rattle.serde_json.specs.Data.{Data}
use Rattle.serde_json.specs.Find.{get}
use Rattle.ring_words.specs.declared.request.Key.{Key}
use Rattle.ring_words.specs.declared.command.Command.{Command}
use Rattle.ring_messages.specs.Fields.{Fields}
use Rattle.ring_messages.specs.Commands.{act_fields, command_data}
use Rattle.ring_messages.specs.Message.{IsDelivery, IsMessage, members_count}
use Rattle.ring_messages.specs.Inner.Says.{SaysCommand, SaysDelivery}
use Rattle.ring_messages.proofs.CommandObjects.{apart, command_proper, count_is, has_command}
use Rattle.ring_messages.proofs.CommandObjects.{is_command, keys_apart, keys_count, own_keys}
use Rattle.ring_messages.proofs.CommandObjects.{same_command}
use Rattle.ring_messages.proofs.FieldLists.{IsNoKey, there_too}
use Rattle.ring_messages.proofs.Keys.{AreFound, differ, distinct, further, members_of, not_key}
use Rattle.ring_messages.proofs.Keys.{same_key}
use Rattle.ring_messages.proofs.OneValue.{same_name, same_number_read}

pub is_delivery : (d : Data) (k : Key) (c : Command) → SaysDelivery d k c → IsDelivery d k c
is_delivery d k c h =
    let own : AreFound own_keys d = (ap is_some h.caller.is, (ap is_some h.number.is, tt)) in
    let out : (name : List ℕ) → name ≢ codes "caller" → name ≢ codes "number"
    → list_any (same_key name) own_keys ≡ false =
    λ name no_caller no_number.
    rw (not_key name (codes "caller") no_caller, not_key name (codes "number") no_number)
    refl in
    record {
      caller = h.caller;
      number = h.number;
      proper = command_proper d c h.command;
      members =
          λ name no_caller no_number. further own_keys (members_of (command_data c)) d
          (distinct _ (keys_apart c.ring c.act)) own (has_command d c h.command)
          (h.count ∙ ap (λ (n : ℕ). 2 + n) (count_is c.ring c.act) ∙ keys_count c.ring c.act) name
          (out name no_caller no_number);
      count = h.count;
    }

alike : (d e : Data) (fs : Fields)
    → ((name : List ℕ) → name ≢ codes "caller" → name ≢ codes "number" → get name d ≡ get name e)
    → IsNoKey (codes "caller") fs → IsNoKey (codes "number") fs
    → AllByRecursion (λ f. get f.0 d ≡ get f.0 e) fs
alike d e [] same caller number = tt
alike d e (f ∷ fs) same caller number =
    (same f.0 caller.0 number.0, alike d e fs same caller.1 number.1)

pub says_delivery : (d : Data) (k : Key) (c : Command) → IsDelivery d k c → SaysDelivery d k c
says_delivery d k c h =
    let own = is_command c h.proper in
    let keys = apart c.act in
    record {
      caller = h.caller;
      number = h.number;
      command = record {
        ring = record {
          is = h.members (codes "ring") (differ (codes "ring") (codes "caller") refl)
              (differ (codes "ring") (codes "number") refl) ∙ own.ring.is;
          valid = h.proper.ring;
        };
        act = record {
          word = h.members (codes "do") (differ (codes "do") (codes "caller") refl)
              (differ (codes "do") (codes "number") refl) ∙ own.act.word;
          fields = there_too (command_data c) d (act_fields c.act)
              (alike d (command_data c) (act_fields c.act) h.members keys.caller keys.number)
              own.act.fields;
        };
      };
      count = h.count;
    }

-- an object that says a command has as many members as its delivery, where it says one
pub own_count : (d : Data) (k : Key) (b c : Command) → SaysDelivery d k b → SaysCommand d c
    → members_count d ≡ 2 + members_count (command_data c)
own_count d k b c h says =
    h.count ∙ ap (λ (x : Command). 2 + members_count (command_data x))
    (same_command d b c h.command says)

abbrev key : List ℕ → ℕ → Key
key c n = record { caller = c; number = n }

same_delivery : (d : Data) (k j : Key) (a b : Command) → SaysDelivery d k a → SaysDelivery d j b
    → (k ≡ j) × (a ≡ b)
same_delivery d k j a b h g = (
  ap (λ (x : List ℕ). key x k.number) (same_name _ _ _ _ h.caller g.caller)
      ∙ ap (λ (x : ℕ). key j.caller x) (same_number_read _ _ _ _ _ _ _ h.number g.number),
  same_command d a b h.command g.command,
)

pub one_message : (bytes : List ℕ) (k j : Key) (c d : Command) → IsMessage bytes k c
    → IsMessage bytes j d → (k ≡ j) × (c ≡ d)
one_message bytes k j c d h g =
    let same : g.value ≡ h.value = same_Some _ _ (sym g.is ∙ h.is) in
    same_delivery h.value k j c d (says_delivery h.value k c h.delivery)
    (says_delivery h.value j d (subst (λ (x : Data). IsDelivery x j d) same g.delivery))
