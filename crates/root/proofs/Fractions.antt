-- A float's value as different fractions. Assumes nothing.
use Rattle.std.proofs.Common.{◌≡◌, ℕ, ◌*◌, ◌<◌, Bool, sym, ap, ◌∙◌, mul_right_comm}
use native.Mathlib.Nat.{eq_of_mul-eq-mul_right}
use lib.Ieee.{Float, nan, inf, fin, up, down}
use lib.Ieee.Exact.{HasValue}
use lib.Ieee.Fits.{down_pos}

-- the same value as another fraction
pub refrac : (x : Float) (s : Bool) (a c b d : ℕ) → 0 < c → a * d ≡ b * c → HasValue x s a c → HasValue x s b d
refrac nan s a c b d p h v = v
refrac (inf t) s a c b d p h v = v
refrac (fin t m e) s a c b d p h v = (
  v.0,
  eq_of_mul-eq-mul_right c p (m * up e * d) (b * down e)
      (mul_right_comm (m * up e) d c ∙ ap (λ (x : ℕ). x * d) v.1 ∙ mul_right_comm a (down e) d ∙ ap (λ (x : ℕ). x * down e) h ∙ mul_right_comm b c (down e)),
)

pub same_sign : (x : Float) (s t : Bool) (a c b d : ℕ) → HasValue x s a c → HasValue x t b d → s ≡ t
same_sign nan s t a c b d h k = absurd h
same_sign (inf u) s t a c b d h k = absurd h
same_sign (fin u m e) s t a c b d h k = sym h.0 ∙ k.0

pub same_number : (x : Float) (s t : Bool) (a b c : ℕ) → HasValue x s a c → HasValue x t b c → a ≡ b
same_number nan s t a b c h k = absurd h
same_number (inf u) s t a b c h k = absurd h
same_number (fin u m e) s t a b c h k = eq_of_mul-eq-mul_right (down e) (down_pos e) a b (sym h.1 ∙ k.1)
