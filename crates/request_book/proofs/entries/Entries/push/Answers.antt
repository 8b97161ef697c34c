use Rattle.std.proofs.Common.{◌++◌, ◌≡◌, ◌∙◌, ◌∷◌, [], List, None, ap, arith, length, subst, sym, ℕ}
use Rattle.ring_words.specs.declared.request.Key.{Key}
use Rattle.request_book.specs.Content.{entry_of}
use Rattle.request_book.proofs.Places.{index_more, index_same}
use Rattle.request_book.proofs.entries.Entries.push.Goals as goal

pub invariant_of-self-in_err-insert : goal.invariant_of-self-in_err-insert
invariant_of-self-in_err-insert g c =
    index_same c.self.inside.places c.insert.new.self c.self.inside.list.items
    c.reserve.new.self.items
    c.in_err-insert.ensures.err c.reserve.ensures.items c.self.invariant

abbrev key : List ℕ → ℕ → Key
key caller number = record { caller = caller; number = number }

pub invariant_of-self-2 : goal.invariant_of-self-2
invariant_of-self-2 g c =
    let book = c.self.inside.list.items in
    let cloned = c.in_ok-key.ensures.cases in
    let same : c.in_ok-key.key ≡ c.args.entry.key = ap (λ n. key n c.in_ok-key.key.number) cloned.0
    ∙ ap (λ n. key c.args.entry.key.caller n) cloned.1 in
    let count : length c.reserve.new.self.items ≡ length book =
    ap (λ l. length l) c.reserve.ensures.items in
    let place : c.len.result ≡ length book = omega (
      arith,
      c.len.ensures,
      c.reserve.new.self.ok.0,
      count,
    ) in
    let more = c.push_reserved.ensures.items ∙ ap (λ l. l ++ c.args.entry ∷
    []) c.reserve.ensures.items in
    let unknown = subst (λ b. entry_of c.args.entry.key b ≡ None) (sym c.self.view_is) c.requires in
    index_more c.self.inside.places c.insert.new.self book c.push_reserved.new.self.items
    c.args.entry
    c.in_ok-key.key c.len.result same place more unknown c.in_ok-insert.ensures.updates.0
    c.self.invariant
