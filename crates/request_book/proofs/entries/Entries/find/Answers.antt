use Rattle.std.proofs.Common.{◌≡◌, ◌∙◌, ap, sym, subst, arith, None, Some}
use Rattle.std.proofs.lemmas.Option.{slice_get-get_or}
use Rattle.request_book.specs.Content.{entry_of}
use Rattle.request_book.proofs.Places.{place_of, no_place}
use Rattle.request_book.proofs.entries.Entries.find.Goals as goal

pub index-requires : goal.index-requires
index-requires g c =
    let list = c.self.inside.list in
    let found = sym c.in-Some.ensures.value in
    let at = place_of c.self.inside.places list.items c.self.invariant c.args.key.now
    c.in-Some.place.now found in
    omega (arith, at.0, list.ok.0)

pub returns-in-Some : goal.returns-in-Some
returns-in-Some g c =
    let list = c.self.inside.list in
    let place = c.in-Some.place.now in
    let entry = c.index.result.now in
    let found = sym c.in-Some.ensures.value in
    let at = place_of c.self.inside.places list.items c.self.invariant c.args.key.now place found in
    let stands = slice_get-get_or list.items place entry at.0 ∙ ap (λ e. Some e)
    (sym c.index.ensures) in
    subst (λ book. Some entry ≡ entry_of c.args.key.now book) c.self.view_is (sym stands ∙ at.1)

pub returns-in-None : goal.returns-in-None
returns-in-None g c =
    let list = c.self.inside.list in
    let none = sym c.in-None.ensures.value in
    subst (λ book. None ≡ entry_of c.args.key.now book) c.self.view_is
    (sym (no_place c.self.inside.places list.items c.self.invariant c.args.key.now none))
