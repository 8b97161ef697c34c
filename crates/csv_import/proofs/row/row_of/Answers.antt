use Rattle.std.proofs.Common.{ℕ, List, ◌∙◌, refl, subst, sym, rules}
use Rattle.ring_words.specs.Limits.{greatest_short}
use Rattle.ring_words.specs.Spelling.{SpellsAddress, SpellsName, SpellsNumber, SpellsWeight}
use Rattle.ring_words.specs.Texts.{is_device_name}
use Rattle.csv_import.proofs.row.row_of.Goals as goal

pub returns-clause-row : goal.returns-clause-row
returns-clause-row c = record {
  count = sym c.len.ensures ∙ c.if-len-ne-COLUMNS.false;
  region = subst (λ (t : List ℕ). SpellsNumber t 0 greatest_short c.in-Ok.region) c.field.ensures
      c.in-Ok.ensures.read;
  zone = subst (λ (t : List ℕ). SpellsNumber t 0 greatest_short c.in-Ok-number_of.zone)
      c.field-2.ensures c.in-Ok-number_of.ensures.read;
  address = subst (λ (t : List ℕ). SpellsAddress t c.in-Ok-address_of.address) c.field-3.ensures
      c.in-Ok-address_of.ensures.read;
  port = subst (λ (t : List ℕ). SpellsNumber t 1 greatest_short c.in-Ok-port_of.port)
      c.field-4.ensures c.in-Ok-port_of.ensures.read;
  name = subst (λ (t : List ℕ). SpellsName is_device_name t c.in-Ok-name_of.name)
      c.field-5.ensures c.in-Ok-name_of.ensures.read;
  weight = subst (λ (t : List ℕ). SpellsWeight t c.in-Ok-weight_of.weight) c.field-6.ensures
      c.in-Ok-weight_of.ensures.read;
}

pub returns-then-len-ne-COLUMNS-clause-fault : goal.returns-then-len-ne-COLUMNS-clause-fault
returns-then-len-ne-COLUMNS-clause-fault c =
    (refl, λ six. c.if-len-ne-COLUMNS.true (c.len.ensures ∙ six))

pub returns-in-Err-Bad-clause-fault : goal.returns-in-Err-Bad-clause-fault
returns-in-Err-Bad-clause-fault c = search rules

pub returns-in_default-address_of-clause-fault : goal.returns-in_default-address_of-clause-fault
returns-in_default-address_of-clause-fault c = search rules

pub returns-in_default-clause-fault : goal.returns-in_default-clause-fault
returns-in_default-clause-fault c = search rules

pub returns-in_default-number_of-clause-fault : goal.returns-in_default-number_of-clause-fault
returns-in_default-number_of-clause-fault c = search rules

pub returns-in_default-port_of-clause-fault : goal.returns-in_default-port_of-clause-fault
returns-in_default-port_of-clause-fault c = search rules

pub returns-in_default-weight_of-clause-fault : goal.returns-in_default-weight_of-clause-fault
returns-in_default-weight_of-clause-fault c = search rules
