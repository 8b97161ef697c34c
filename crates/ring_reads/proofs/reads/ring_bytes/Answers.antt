use Rattle.std.proofs.Common.{IfOk, subst, sym}
use Rattle.std.specs.Prelude.{IsUtf8}
use Rattle.std.proofs.lemmas.Result.{IfOk-weaker}
use Rattle.std.proofs.lemmas.Str.{IsUtf8-string_bytes}
use Rattle.ring_reads.specs.Reads.{IsShown}
use Rattle.ring_reads.proofs.reads.ring_bytes.Goals as goal

pub returns-in-Published-clause-shown : goal.returns-in-Published-clause-shown
returns-in-Published-clause-shown c =
    subst (λ what. IfOk c.published_bytes.result (λ bytes. IsShown c.args.names.prefix.now
    c.args.names.suffix.now c.args.name.now c.args.ring.now c.args.hour what bytes.items))
    (sym c.in-Published.is)
    (IfOk-weaker c.published_bytes.result _ _
    (λ bytes all. all c.args.names.prefix.now c.args.names.suffix.now c.args.name.now c.args.hour)
    c.published_bytes.ensures.told)

pub returns-in_ok-ring_text-in_default-clause-shown :
    goal.returns-in_ok-ring_text-in_default-clause-shown
returns-in_ok-ring_text-in_default-clause-shown c =
    subst (λ bytes. IsShown c.args.names.prefix.now c.args.names.suffix.now c.args.name.now
    c.args.ring.now c.args.hour c.args.what.now bytes.items) (sym c.into_bytes.ensures.value)
    c.in_ok-ring_text-in_default.ensures.shown

pub returns-in_ok-ring_text-in_default-clause-text :
    goal.returns-in_ok-ring_text-in_default-clause-text
returns-in_ok-ring_text-in_default-clause-text c = λ text. subst (λ bytes. IsUtf8 bytes.items)
    (sym c.into_bytes.ensures.value) (IsUtf8-string_bytes c.in_ok-ring_text-in_default.field-0)
