-- Published texts.
use Rattle.std.proofs.Common.{◌≡◌, ℕ, true, false, cond, List, [], ◌∷◌, Some, refl, find}
use Rattle.std.specs.Prelude.{◌==◌}
use Rattle.std.specs.Option.{option_map}
use Rattle.std.specs.Rc.{rc_str_bytes}
use Rattle.std.specs.declared.rc.RcStr.{RcStr}
use Rattle.std.specs.declared.alloc.Global.{Global}
use Rattle.ring_model.specs.Parts.{texts_of}

-- the text of the first entry of a version, by entries and by what is seen of them
pub text_of_found : (published : List (ℕ × RcStr Global)) (version : ℕ) →
    option_map (λ e. rc_str_bytes e.1) (find (λ e. e.0 == version) published) ≡ option_map
    (λ e. e.1) (find (λ e. e.0 == version) (texts_of published))
text_of_found [] version = refl
text_of_found (e ∷ es) version = elim (e.0 == version) as (λ b. option_map (λ x. rc_str_bytes x.1)
    (cond b (Some e) (find (λ x. x.0 == version) es)) ≡ option_map (λ x. x.1)
    (cond b (Some (e.0, rc_str_bytes e.1)) (find (λ x. x.0 == version) (texts_of es))))
    [ true ↦ refl | false ↦ text_of_found es version ]
