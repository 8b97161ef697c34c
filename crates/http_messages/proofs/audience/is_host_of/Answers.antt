use Rattle.std.proofs.Common.{◌≡◌, ℕ, List, length, take, drop, true, false, ap, sym, ◌∙◌, refl}
use Rattle.std.proofs.lemmas.List.{take_min, drop_min}
use Rattle.std.specs.Str.{str_eq_ignore_ascii_case}
use Rattle.http_messages.specs.Audiences.{is_port}
use Rattle.http_messages.proofs.audience.is_host_of.Goals as goal

pub returns-then-are_alike : goal.returns-then-are_alike
returns-then-are_alike c =
    let host = c.args.host.now in
    let name = c.args.name.now in
    let front = c.split_at.ensures.front ∙ ap (λ (n : ℕ). take n host) c.min.ensures ∙
    take_min (length name) host in
    let back = c.split_at.ensures.back ∙ ap (λ (n : ℕ). drop n host) c.min.ensures ∙
    drop_min (length name) host in
    let named : str_eq_ignore_ascii_case (take (length name) host) name ≡ true =
    ap (λ (t : List ℕ). str_eq_ignore_ascii_case t name) (sym front) ∙ sym
    c.if-are_alike.ensures in
    rw named (c.is_port.ensures ∙ ap is_port back)

pub returns-else-are_alike : goal.returns-else-are_alike
returns-else-are_alike c =
    let host = c.args.host.now in
    let name = c.args.name.now in
    let front = c.split_at.ensures.front ∙ ap (λ (n : ℕ). take n host) c.min.ensures ∙
    take_min (length name) host in
    let named : str_eq_ignore_ascii_case (take (length name) host) name ≡ false =
    ap (λ (t : List ℕ). str_eq_ignore_ascii_case t name) (sym front) ∙ sym
    c.if-are_alike.ensures in
    rw named c.if-are_alike.false
