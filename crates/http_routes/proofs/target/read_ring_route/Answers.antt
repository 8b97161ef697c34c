use Rattle.std.proofs.Common.{inl, inr, refl, sym, ℕ}
use Rattle.std.proofs.lemmas.Result.{err_from_is_err_and}
use Rattle.ring_words.specs.Limits.{greatest_long}
use Rattle.ring_words.specs.Spelling.{SpellsName, SpellsNumber}
use Rattle.ring_words.specs.Texts.{is_label}
use Rattle.http_routes.specs.Queries.{IsImportQuery, IsMovesQuery, IsPreviewQuery, pairs_of}
use Rattle.http_routes.proofs.BadParts.{bad_part}
use Rattle.http_routes.proofs.target.read_ring_route.Goals as goal

pub returns-in_ok-version-in-Swift : goal.returns-in_ok-version-in-Swift
returns-in_ok-version-in-Swift c =
    let named = c.in_ok-ring.ensures.read in
    (c.in-Swift.is, sym named.is, rw named.is named.valid, c.in_ok-version-in-Swift.ensures.read)

pub returns-in_ok-seed-in-Preview : goal.returns-in_ok-seed-in-Preview
returns-in_ok-seed-in-Preview c =
    let named = c.in_ok-ring.ensures.read in
    (c.in-Preview.is, sym named.is, rw named.is named.valid, c.in_ok-seed-in-Preview.ensures)

pub returns-in_ok-from-in-Moves : goal.returns-in_ok-from-in-Moves
returns-in_ok-from-in-Moves c =
    let named = c.in_ok-ring.ensures.read in
    (c.in-Moves.is, sym named.is, rw named.is named.valid, c.in_ok-from-in-Moves.ensures)

pub returns-in_err-ring : goal.returns-in_err-ring
returns-in_err-ring c =
    let a = c.args in
    let r = c.from_residual in
    let p = err_from_is_err_and r.result r.ensures.1 in
    rw (p.1, p.2)
    (bad_part (SpellsName is_label a.found.ring.now) a.found.endpoint a.found.ring.now a.found.version.now a.query.now
    c.in_err-ring.field-0.0 c.requires c.in_err-ring.ensures.read
    (λ none. inl (λ label. none a.found.ring.now (record { is = refl; valid = label }))))

pub returns-in_err-read_key-in-Import : goal.returns-in_err-read_key-in-Import
returns-in_err-read_key-in-Import c =
    let a = c.args in
    let r = c.from_residual-in_err-read_key-in-Import in
    let p = err_from_is_err_and r.result r.ensures.1 in
    rw (p.1, p.2)
    (bad_part (IsImportQuery (pairs_of a.query.now)) a.found.endpoint a.found.ring.now a.found.version.now a.query.now
    c.in_err-read_key-in-Import.field-0.0 c.requires c.in_err-read_key-in-Import.ensures
    (λ none. inr (inl (c.in-Import.is, none))))

pub returns-in_err-version-in-Text : goal.returns-in_err-version-in-Text
returns-in_err-version-in-Text c =
    let a = c.args in
    let r = c.from_residual-in_err-version-in-Text in
    let p = err_from_is_err_and r.result r.ensures.1 in
    rw (p.1, p.2)
    (bad_part (SpellsNumber a.found.version.now 0 greatest_long) a.found.endpoint a.found.ring.now a.found.version.now a.query.now
    c.in_err-version-in-Text.field-0.0 c.requires c.in_err-version-in-Text.ensures.read
    (λ none. inr (inr (inl (c.in-Text.is, none)))))

pub returns-in_err-version-in-Swift : goal.returns-in_err-version-in-Swift
returns-in_err-version-in-Swift c =
    let a = c.args in
    let r = c.from_residual-in_err-version-in-Swift in
    let p = err_from_is_err_and r.result r.ensures.1 in
    rw (p.1, p.2)
    (bad_part (SpellsNumber a.found.version.now 0 greatest_long) a.found.endpoint a.found.ring.now a.found.version.now a.query.now
    c.in_err-version-in-Swift.field-0.0 c.requires c.in_err-version-in-Swift.ensures.read
    (λ none. inr (inr (inr (inl (c.in-Swift.is, none))))))

pub returns-in_err-seed-in-Preview : goal.returns-in_err-seed-in-Preview
returns-in_err-seed-in-Preview c =
    let a = c.args in
    let r = c.from_residual-in_err-seed-in-Preview in
    let p = err_from_is_err_and r.result r.ensures.1 in
    rw (p.1, p.2)
    (bad_part (λ (x : ℕ × ℕ). IsPreviewQuery (pairs_of a.query.now) x.0 x.1) a.found.endpoint a.found.ring.now a.found.version.now a.query.now
    c.in_err-seed-in-Preview.field-0.0 c.requires c.in_err-seed-in-Preview.ensures
    (λ none. inr (inr (inr (inr (inl (c.in-Preview.is, none)))))))

pub returns-in_err-from-in-Moves : goal.returns-in_err-from-in-Moves
returns-in_err-from-in-Moves c =
    let a = c.args in
    let r = c.from_residual-in_err-from-in-Moves in
    let p = err_from_is_err_and r.result r.ensures.1 in
    rw (p.1, p.2)
    (bad_part (λ (x : ℕ × ℕ). IsMovesQuery (pairs_of a.query.now) x.0 x.1) a.found.endpoint a.found.ring.now a.found.version.now a.query.now
    c.in_err-from-in-Moves.field-0.0 c.requires c.in_err-from-in-Moves.ensures
    (λ none. inr (inr (inr (inr (inr (c.in-Moves.is, none)))))))
