use Rattle.std.proofs.Common.{◌≡◌, ℕ, List, [], ◌∷◌, ◌++◌, filter, nat_lt, rules, ap, ◌∙◌}
use Rattle.std.specs.declared.rc.RcStr.{RcStr}
use Rattle.std.specs.declared.alloc.Global.{Global}
use Rattle.ring_model.specs.Parts.{texts_of}
use Rattle.ring_model.proofs.Copies.{same_texts}
use Rattle.ring_model.proofs.Amidst.{texts_of_among}
use Rattle.ring_model.proofs.publishing.put_among.Goals as goal

pub returns : goal.returns
returns c =
    let old : List (ℕ × RcStr Global) = c.args.published.now.items in
    let all : c.append.new.self.items ≡ (filter (λ e. nat_lt e.0 c.args.version) old ++
    (c.args.version, c.args.text) ∷ []) ++ filter (λ e. nat_lt c.args.version e.0)
    c.in_ok-later.later.items = search rules in
    ap texts_of all ∙ texts_of_among c.args.version c.args.text old c.in_ok-later.later.items
    (same_texts _ _ c.in_ok-later.ensures.cases.0)
