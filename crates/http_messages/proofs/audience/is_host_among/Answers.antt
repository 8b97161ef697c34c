use Rattle.std.proofs.Common.{◌≡◌, ℕ, ◌<◌, List, length, take, map, true, false, ◌||◌, ap, sym, ◌∙◌, arith}
use Rattle.std.proofs.Common.{refl, Bor, get_or, codes}
use Rattle.std.specs.List.{list_any}
use Rattle.std.proofs.lemmas.List.Folds.{list_any_at}
use Rattle.http_messages.specs.Audiences.{is_host_of}
use Rattle.http_messages.proofs.FieldLemmas.{any_map}
use Rattle.http_messages.proofs.audience.is_host_among.Goals as goal

pub returns-then-is_host_of-3 : goal.returns-then-is_host_of-3
returns-then-is_host_of-3 c =
    let host = c.args.host.now in
    let names = c.args.names.now in
    let i = c.loop-name.name-index in
    let lt : i < length names = omega arith in
    let found : list_any (is_host_of host) (map (λ (name : Bor (List ℕ)). name.now) names) ≡ true =
    any_map (is_host_of host) (λ (name : Bor (List ℕ)). name.now) names ∙ list_any_at
    (λ (name : Bor (List ℕ)). is_host_of host name.now) names i _ lt
    (ap (is_host_of host) (sym c.as_bytes.ensures.value) ∙ sym c.if-is_host_of-3.ensures) in
    rw (sym c.if-is_host_of.ensures, sym c.if-is_host_of-2.ensures, found) refl
