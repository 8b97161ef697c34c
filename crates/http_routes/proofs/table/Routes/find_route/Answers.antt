use Rattle.std.proofs.Common.{◌<◌, List, ℕ, arith, get_or, ap, ◌∙◌, refl, Bor}
use Rattle.http_routes.proofs.Routed.{found-routed, leads-to, none-found, none-leads}
use Rattle.http_routes.proofs.Routed.{routed-utf8, shown-part}
use Rattle.http_routes.proofs.Texts.{text-of}
use Rattle.http_routes.proofs.table.Routes.find_route.Goals as goal

pub returns-in_default : goal.returns-in_default
returns-in_default c = λ endpoint ring version h.
    c.in_default.ensures.cases.0 (routed-utf8 c.args.path.now endpoint ring version h)

pub returns-in_default-at : goal.returns-in_default-at
returns-in_default-at c =
    let bytes : (i : ℕ) → get_or c.args.path.now i 0 < 256 = λ i. omega (arith, c.type_inv.path i)
    in
    none-found c.args.path.now (text-of c.args.path.now bytes)
    (rw (c.args.self.now.held, c.in-Ok.ensures.cases.0) at c.in_default-at.ensures.missing)

pub returns-in_err-endpoint_of : goal.returns-in_err-endpoint_of
returns-in_err-endpoint_of c =
    let bytes : (i : ℕ) → get_or c.args.path.now i 0 < 256 = λ i. omega (arith, c.type_inv.path i)
    in
    let found = rw (c.args.self.now.held, c.in-Ok.ensures.cases.0) at c.in-Ok-at.ensures.found in
    let routed = found-routed c.args.path.now _ (text-of c.args.path.now bytes)
    c.in-Ok.ensures.cases.1 found in
    let same = c.in-Ok-at.ensures.path ∙ c.in-Ok.ensures.cases.0 in
    let word_told = rw same at c.get.ensures in
    let word = ap (λ (text : Bor (List ℕ)). text.now) c.unwrap_or-word.ensures
    ∙ shown-part (λ (text : Bor (List ℕ)). text.now) c.get.result _ _ refl
    (word_told routed.texts) in
    rw c.from_residual.ensures (none-leads c.args.path.now _ (text-of c.args.path.now bytes) found
    (rw word at c.in_err-endpoint_of.ensures))

pub returns : goal.returns
returns c =
    let bytes : (i : ℕ) → get_or c.args.path.now i 0 < 256 = λ i. omega (arith, c.type_inv.path i)
    in
    let found = rw (c.args.self.now.held, c.in-Ok.ensures.cases.0) at c.in-Ok-at.ensures.found in
    let routed = found-routed c.args.path.now _ (text-of c.args.path.now bytes)
    c.in-Ok.ensures.cases.1 found in
    let same = c.in-Ok-at.ensures.path ∙ c.in-Ok.ensures.cases.0 in
    let word_told = rw same at c.get.ensures in
    let word = ap (λ (text : Bor (List ℕ)). text.now) c.unwrap_or-word.ensures
    ∙ shown-part (λ (text : Bor (List ℕ)). text.now) c.get.result _ _ refl
    (word_told routed.texts) in
    let ring_told = rw same at c.get-2.ensures in
    let version_told = rw same at c.get-3.ensures in
    let ring = ap (λ (text : Bor (List ℕ)). text.now) c.unwrap_or.ensures
    ∙ shown-part (λ (text : Bor (List ℕ)). text.now) c.get-2.result _ _ refl (ring_told routed.texts)
    in
    let version = ap (λ (text : Bor (List ℕ)). text.now) c.unwrap_or-2.ensures
    ∙ shown-part (λ (text : Bor (List ℕ)). text.now) c.get-3.result _ _ refl
    (version_told routed.texts) in
    let leads = rw word at c.in_ok-endpoint_of.ensures in
    rw (ring, version) (leads-to c.args.path.now _ _ _ _ _ leads routed.has)
