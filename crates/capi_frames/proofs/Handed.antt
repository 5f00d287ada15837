-- A promise about two values also holds for values equal to them. Assumes nothing.
use mathlib.Core.Path.{◌≡◌, subst}

pub handed : {A B D : Type 0} (P : A → B → D → Type 0) {a a' : A} {b b' : B} (d : D) → a ≡ a' → b ≡ b' → P a b d → P a' b' d
handed {A} {B} P {a} {a'} {b} {b'} d e f p = subst (λ (y : B). P a' y d) f (subst (λ (x : A). P x b d) e p)
