-- An argument more, and a program more.
use Rattle.std.proofs.Common.{◌≡◌, ℕ, ◌+◌, ◌<◌, ◌∙◌, List, [], ◌∷◌, ◌++◌, false, map, take}
use Rattle.std.proofs.Common.{get_or, length, ap, refl, sym}
use Rattle.std.proofs.lemmas.List.{append_assoc, map_more}
use Rattle.clap.specs.Simple.{App, Shape, on_top, with_rule, with_subcommand}
use Rattle.clap.specs.Walk.{Rule}
use Rattle.command_line.specs.Inner.Adding.{with_rules, with_shapes}

-- a command that has what so many of these tell gets what the next tells
pub one_more : {A B : Type 0} (with_each : App → List B → App) (with_one : App → B → App)
    (last : (app : App) (bs : List B) (b : B)
    → with_one (with_each app bs) b ≡ with_each app (bs ++ b ∷ [])) (to : A → B) (told : List A)
    (i : ℕ) (d : A) (first before after : App) → i < length told
    → before ≡ with_each first (map to (take i told))
    → after ≡ with_one before (to (get_or told i d))
    → after ≡ with_each first (map to (take (i + 1) told))
one_more with_each with_one last to told i d first before after within so_far adds =
    let next = to (get_or told i d) in
    adds ∙ ap (λ app. with_one app next) so_far ∙ last first (map to (take i told)) next
    ∙ ap (with_each first) (sym (map_more to told i d within))

pub last_rule : (app : App) (rules : List Rule) (rule : Rule)
    → with_rule (with_rules app rules) rule ≡ with_rules app (rules ++ rule ∷ [])
last_rule app rules rule =
    ap (λ all. on_top (λ shape. record shape { rules = all }) app)
    (append_assoc app.top.rules rules (rule ∷ []))

pub last_shape : (app : App) (shapes : List Shape) (shape : Shape)
    → with_subcommand (with_shapes app shapes) shape ≡ with_shapes app (shapes ++ shape ∷ [])
last_shape app [] shape = refl
last_shape app (s ∷ ss) shape =
    ap (λ subs. record { top = record app.top { is_leaf = false }; subs = subs })
    (append_assoc app.subs (s ∷ ss) (shape ∷ []))
