-- Known bytes that are read or written one text after another.
use Rattle.std.proofs.Common.{ℕ, List, [], ◌++◌, Option, Some, None, Result, Ok, Err, sym, ap, ◌∙◌}
use Rattle.std.proofs.Common.{append_assoc, append-nil, refl}
use Rattle.std.specs.Prelude.{OnOk}
use Rattle.std.specs.Io.KnownBytes.{Appends, Consumes, Keeps}
use Rattle.byte_streams.specs.Writing.{Forwards, WritesBeginning}

pub Appends-then : (u v w : Option (List ℕ)) (a b : List ℕ) → Appends u v a → Appends v w b →
    Appends u w (a ++ b)
Appends-then None v w a b x y = tt
Appends-then (Some xs) None w a b x y = absurd x
Appends-then (Some xs) (Some ys) None a b x y = y
Appends-then (Some xs) (Some ys) (Some zs) a b x y = y ∙ ap (λ (t : List ℕ). t ++ b) x ∙
    append_assoc xs a b

pub Appends-kept : (u v w : Option (List ℕ)) (a : List ℕ) → Appends u v a → Keeps v w →
    Appends u w a
Appends-kept None v w a x y = tt
Appends-kept (Some xs) None w a x y = absurd x
Appends-kept (Some xs) (Some ys) None a x y = absurd y
Appends-kept (Some xs) (Some ys) (Some zs) a x y = y ∙ x

pub Appends-none : (u : Option (List ℕ)) → Appends u u []
Appends-none None = tt
Appends-none (Some xs) = sym (append-nil xs)

pub Consumes-then : (u v w : Option (List ℕ)) (a b : List ℕ) → Consumes u v a → Consumes v w b →
    Consumes u w (a ++ b)
Consumes-then None v w a b x y = tt
Consumes-then (Some xs) None w a b x y = absurd x
Consumes-then (Some xs) (Some ys) None a b x y = y
Consumes-then (Some xs) (Some ys) (Some zs) a b x y = x ∙ ap (λ (t : List ℕ). a ++ t) y ∙ sym
    (append_assoc a b zs)

pub Consumes-kept : (u v w : Option (List ℕ)) (a : List ℕ) → Consumes u v a → Keeps v w →
    Consumes u w a
Consumes-kept None v w a x y = tt
Consumes-kept (Some xs) None w a x y = absurd x
Consumes-kept (Some xs) (Some ys) None a x y = absurd y
Consumes-kept (Some xs) (Some ys) (Some zs) a x y = x ∙ ap (λ (t : List ℕ). a ++ t) (sym y)

pub Kept-consumes : (u v w : Option (List ℕ)) (a : List ℕ) → Keeps u v → Consumes v w a →
    Consumes u w a
Kept-consumes None v w a x y = tt
Kept-consumes (Some xs) None w a x y = absurd x
Kept-consumes (Some xs) (Some ys) None a x y = y
Kept-consumes (Some xs) (Some ys) (Some zs) a x y = sym x ∙ y

pub Consumes-none : (u : Option (List ℕ)) → Consumes u u []
Consumes-none None = tt
Consumes-none (Some xs) = refl

pub Keeps-same : (u : Option (List ℕ)) → Keeps u u
Keeps-same None = tt
Keeps-same (Some xs) = refl

-- what is written of a text and then of what was left and more
pub Forwards-then : (u v w : Option (List ℕ)) (a b mid left : List ℕ) → Forwards u v a mid →
    Forwards v w (mid ++ b) left → Forwards u w (a ++ b) left
Forwards-then u v w a b mid left x y = (
  x.0 ++ y.0,
  ap (λ (t : List ℕ). t ++ b) x.1 ∙ append_assoc x.0 mid b ∙ ap (λ (t : List ℕ). x.0 ++ t) y.1 ∙ sym
      (append_assoc x.0 y.0 left),
  Appends-then u v w x.0 y.0 x.2 y.2,
)

pub Forwards-kept : (u v w : Option (List ℕ)) (a left : List ℕ) → Forwards u v a left → Keeps v w →
    Forwards u w a left
Forwards-kept u v w a left x y = (x.0, x.1, Appends-kept u v w x.0 x.2 y)

pub Forwards-all : (u v : Option (List ℕ)) (a : List ℕ) → Appends u v a → Forwards u v a []
Forwards-all u v a x = (a, sym (append-nil a), x)

pub Forwards-none : (u : Option (List ℕ)) (a : List ℕ) → Forwards u u a a
Forwards-none u a = ([], refl, Appends-none u)

-- what is written of a text, and then all of what was left
pub Forwards-whole : (u v w : Option (List ℕ)) (a left : List ℕ) → Forwards u v a left →
    Appends v w left → Appends u w a
Forwards-whole u v w a left x y = rw x.1 (Appends-then u v w x.0 left x.2 y)

-- what is written of a text, and then a beginning of what was left
pub beginning_of_left : (u v w : Option (List ℕ)) (a left : List ℕ) → Forwards u v a left →
    WritesBeginning v w left → WritesBeginning u w a
beginning_of_left u v w a left x y = (
  x.0 ++ y.0,
  y.1,
  x.1 ∙ ap (λ (t : List ℕ). x.0 ++ t) y.2 ∙ sym (append_assoc x.0 y.0 y.1),
  Appends-then u v w x.0 y.0 x.2 y.3,
)

-- what is written of a text, and then a beginning of what was left and more
pub beginning_then : (u v w : Option (List ℕ)) (a b mid : List ℕ) → Forwards u v a mid →
    WritesBeginning v w (mid ++ b) → WritesBeginning u w (a ++ b)
beginning_then u v w a b mid x y =
    beginning_of_left u v w (a ++ b) (mid ++ b) (
      x.0,
      ap (λ (t : List ℕ). t ++ b) x.1 ∙ append_assoc
          x.0 mid b,
      x.2,
    ) y

-- a beginning of a text is one of a longer text
pub beginning_longer : (u v : Option (List ℕ)) (a b : List ℕ) → WritesBeginning u v a →
    WritesBeginning u v (a ++ b)
beginning_longer u v a b x = (
  x.0,
  x.1 ++ b,
  ap (λ (t : List ℕ). t ++ b) x.2 ∙ append_assoc x.0 x.1
      b,
  x.3,
)

pub OnOk-always : {T E P : Type 0} (r : Result T E) → P → OnOk r P
OnOk-always (Ok x) p = p
OnOk-always (Err e) p = tt
