-- Runs one after another over one store are one safe run.
use Rattle.std.proofs.Common.{◌<◌, ◌≡◌, ℕ, ◌++◌, List, [], ◌∷◌, append_assoc, append-nil}
use Rattle.std.proofs.Common.{false, sym, ap, subst, ◌∙◌}
use Rattle.std.specs.Prelude.{All}
use Rattle.std.specs.List.{AllByRecursion}
use Rattle.std.specs.Option.{option_to_list}
use Rattle.std.proofs.lemmas.List.{append_cancel_left}
use Rattle.std.proofs.lemmas.List.Elements.{All-append, All-nil, recursion_from_All}
use Rattle.ring_words.specs.Limits.{long_count}
use Rattle.ring_words.specs.declared.request.Limits.{Limits}
use Rattle.ring_words.specs.declared.command.Command.{Command}
use Rattle.ring_words.specs.declared.command.Reply.{Reply}
use Rattle.request_book.specs.Call.{Call}
use Rattle.request_book.specs.Content.{Content}
use Rattle.request_book.specs.Once.{once}
use Rattle.request_book.specs.Run.{Leads}
use Rattle.builder.specs.Life.{IsProperCall, Lives}
use Rattle.builder.specs.Safety.{AreValid, AreValidOnTheWay, Entries, IsProperEntry, IsSafeRun}
use Rattle.builder.specs.Safety.{LeadsSafely}
use Rattle.builder.specs.Step.{State, Step}
use Rattle.builder.proofs.Joined.{leads_on}
use Rattle.builder.proofs.Proper.{proper_entries, small_after}
use Rattle.builder.proofs.Safe.{led_run, safe_leads, valid_on_the_way}

-- all that was decided in a life, in order, leads from its first content to its last
record LedBy (limits : Limits) (old new : Content State Command Reply) : Type 0 where
  entries : Entries
  leads : Leads (Step limits) old entries new

led_on : (limits : Limits) (old mid new : Content State Command Reply) → LedBy limits old mid
    → LedBy limits mid new → LedBy limits old new
led_on limits old mid new first second = record {
  entries = first.entries ++ second.entries;
  leads = leads_on limits old mid new first.entries second.entries first.leads second.leads;
}

led_nowhere : (limits : Limits) (old new : Content State Command Reply) → new ≡ old
    → LedBy limits old new
led_nowhere limits old new same = record {
  entries = [];
  leads = record {
    book = ap (λ (c : Content State Command Reply). c.book) same ∙ sym (append-nil old.book);
    chain = ap (λ (c : Content State Command Reply). c.state) same;
    hour = ap (λ (c : Content State Command Reply). c.hour) same;
  };
}

life_leads : (limits : Limits) (limit : ℕ) (old new : Content State Command Reply)
    (runs : List (List (Call Command Reply))) → Lives limits limit old runs new
    → LedBy limits old new
life_leads limits limit old new [] same = led_nowhere limits old new same
life_leads limits limit old new (calls ∷ later) lives =
    led_on limits old lives.0 new (record {
      entries = once old.book calls ++ option_to_list lives.1.doubt;
      leads = lives.1.leads;
    }) (life_leads limits limit lives.0 new later lives.2)

-- A life leads safely.
pub led_life : (limits : Limits) (limit : ℕ) (old new : Content State Command Reply)
    (runs : List (List (Call Command Reply))) → Lives limits limit old runs new
    → LeadsSafely limits old new
led_life limits limit old new runs lives =
    let led = life_leads limits limit old new runs lives in
    safe_leads limits old new led.entries led.leads

-- what was decided is proper, and stands behind the old book, and the new hour has 32 bits
pub record IsProperly (old new : Content State Command Reply) : Type 0 where
  pub entries : Entries
  pub book : new.book ≡ old.book ++ entries
  pub proper : All IsProperEntry entries
  pub small : new.hour < long_count

pub proper_life : (limits : Limits) (limit : ℕ) (old new : Content State Command Reply)
    (runs : List (List (Call Command Reply))) → Lives limits limit old runs new
    → old.hour < long_count → AllByRecursion (All IsProperCall) runs → IsProperly old new
proper_life limits limit old new [] same small proper = record {
  entries = [];
  book = ap (λ (c : Content State Command Reply). c.book) same ∙ sym (append-nil old.book);
  proper = All-nil IsProperEntry;
  small = subst (λ (c : Content State Command Reply). c.hour < long_count) (sym same) small;
}
proper_life limits limit old new (calls ∷ later) lives small proper =
    let led : LeadsSafely limits old lives.0 = led_run limits limit false old lives.0 calls lives.1
    in
    let rest : IsProperly lives.0 new =
    proper_life limits limit lives.0 new later lives.2 (small_after limits limit false old lives.0
    calls lives.1 small proper.0) proper.1 in
    record {
      entries = led.entries ++ rest.entries;
      book = rest.book ∙ ap (λ (b : Entries). b ++ rest.entries) led.book
          ∙ append_assoc old.book led.entries rest.entries;
      proper = All-append IsProperEntry led.entries rest.entries
          (proper_entries limits limit false old lives.0 calls lives.1 small proper.0 led) rest.proper;
      small = rest.small;
    }

-- Where the old rings are valid and all that is delivered is proper, all rings on the way are valid.
pub valid_life : (limits : Limits) (limit : ℕ) (old new : Content State Command Reply)
    (runs : List (List (Call Command Reply))) → Lives limits limit old runs new
    → old.hour < long_count → All (All IsProperCall) runs → AreValid old.state
    → (led : LeadsSafely limits old new) → AreValidOnTheWay led
valid_life limits limit old new runs lives small proper valid led =
    let all : IsProperly old new = proper_life limits limit old new runs lives small
    (recursion_from_All (All IsProperCall) runs proper) in
    valid_on_the_way limits old.state new.state led.entries led.rings led.safe.way valid
    (subst (All IsProperEntry)
    (append_cancel_left old.book all.entries led.entries (sym all.book ∙ led.book)) all.proper)

-- A life of proper calls is one safe run.
pub safe_life : (limits : Limits) (limit : ℕ) (old new : Content State Command Reply)
    (runs : List (List (Call Command Reply))) → Lives limits limit old runs new
    → All (All IsProperCall) runs → IsSafeRun limits old new
safe_life limits limit old new runs lives proper =
    let led : LeadsSafely limits old new = led_life limits limit old new runs lives in
    record {
      led = led;
      valid = λ valid small. valid_life limits limit old new runs lives small proper valid led;
      hour = λ small. (proper_life limits limit old new runs lives small
          (recursion_from_All (All IsProperCall) runs proper)).small;
    }
