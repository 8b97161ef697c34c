use Rattle.std.proofs.Common.{subst, sym}
use Rattle.std.specs.Prelude.{IsUtf8}
use Rattle.std.proofs.lemmas.Str.{IsUtf8-string_bytes}
use Rattle.ring_book.proofs.asking.log_bytes.Goals as goal

pub returns-in-Ok-clause-text : goal.returns-in-Ok-clause-text
returns-in-Ok-clause-text c = subst (λ bytes. IsUtf8 bytes.items) (sym c.into_bytes.ensures.value)
    (IsUtf8-string_bytes c.in-Ok.text)
