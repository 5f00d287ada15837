-- A whole number of up to 23 bits divided by a power of two is not rounded. Assumes nothing.
use mathlib.Core.Path.{◌≡◌, sym, ap, ◌∙◌, subst}
use mathlib.Core.Bool.{Bool, true, false}
use Prim.Native.Nat.{ℕ, suc, ◌+◌, ◌-◌, ◌*◌, ◌^◌, ◌<◌, ◌≤◌}
use native.Mathlib.Nat.{mul_assoc, mul_comm, one-mul, mul-pos, lt_of_lt_of_le}
use native.Mathlib.Omega.{arith}
use lib.Pow.{pow-add, pow_pos, pow_mono, shl_lt}
use lib.IntN.{ℤ, pos, negsuc}
use lib.Signed.{mag}
use lib.Ieee.{Float, nan, inf, fin, binary32, up, down, round, div, of_int}
use lib.Ieee.Back.{round_whole}
use lib.Ieee.Exact.{HasValue, round_exact}
use lib.Ieee.Fits.{down_pos}
use lib.Ieee.Scale.{round_same}
use Rattle.floats.specs.Floats.{power_of_two, over, ◌⊘◌}
use Rattle.floats.specs.Exact.{Exactly}
use Rattle.floats.proofs.Power.{power_below}

-- cross-multiplication: the fraction that a division rounds equals n / p
cross : (x n p d : ℕ) → x * 1 ≡ n * d → x * 1 * p ≡ n * (1 * p * d)
cross x n p d e =
    ap (λ (k : ℕ). k * p) e ∙ mul_assoc n d p ∙ ap (λ (k : ℕ). n * k) (mul_comm d p ∙ ap (λ (k : ℕ). k * d) (sym (one-mul p)))

same : (s : Bool) (x n e d : ℕ) → 0 < d → x * 1 ≡ n * d → round binary32 s (x * 1) (1 * 2 ^ e * d) ≡ round binary32 s n (2 ^ e)
same s x n e d h v =
    round_same binary32 s (x * 1) (1 * 2 ^ e * d) n (2 ^ e) (mul-pos (subst (λ (k : ℕ). 0 < k) (sym (one-mul (2 ^ e))) (pow_pos e)) h) (pow_pos e) (cross x n (2 ^ e) d v)

-- a quotient by 2 ^ e is one rounding of the fraction n / 2 ^ e
quotient : (x : Float) (s : Bool) (n e : ℕ) → HasValue x s n 1 → x ⊘ fin false 1 (pos e) ≡ round binary32 s n (2 ^ e)
unfolding div
quotient nan s n e v = absurd v
quotient (inf t) s n e v = absurd v
quotient (fin true m d) s n e v = subst (λ (t : Bool). (fin true m d ⊘ fin false 1 (pos e)) ≡ round binary32 t n (2 ^ e)) v.0 (same true (m * up d) n e (down d) (down_pos d) v.1)
quotient (fin false m d) s n e v = subst (λ (t : Bool). (fin false m d ⊘ fin false 1 (pos e)) ≡ round binary32 t n (2 ^ e)) v.0 (same false (m * up d) n e (down d) (down_pos d) v.1)

-- that fraction fits the 24 digits of a binary32, so rounding it is exact
pub fraction : (s : Bool) (n e : ℕ) → n < 2 ^ 24 → e < 128 → HasValue (round binary32 s n (2 ^ e)) s n (2 ^ e)
fraction s n e h l =
    round_exact binary32 s n (2 ^ e) n (149 - e) (pow_pos e) h
    (lt_of_lt_of_le (shl_lt 24 (149 - e) h) (pow_mono {i = 24 + (149 - e)} {j = 277} (omega arith)))
    (ap (λ (k : ℕ). n * k) (ap (λ (k : ℕ). 2 ^ k) (let z : 149 ≡ 149 - e + e = omega arith in z) ∙ pow-add 2 (149 - e) e) ∙ sym (mul_assoc n (2 ^ (149 - e)) (2 ^ e)))

pub divided : (x : Float) (s : Bool) (n e : ℕ) → HasValue x s n 1 → n < 2 ^ 24 → e < 128 → HasValue (x ⊘ power_of_two e) s n (2 ^ e)
divided x s n e v h l =
    subst (λ (y : Float). HasValue y s n (2 ^ e)) (sym (ap (λ (p : Float). x ⊘ p) (power_below e l) ∙ quotient x s n e v)) (fraction s n e h l)

pub over-exact : (z : ℤ) (e : ℕ) → mag z < 2 ^ 23 → e ≤ 100 → Exactly (over z e) z e
unfolding of_int
over-exact (pos n) e h l = divided (round binary32 false n 1) false n e (round_whole binary32 false n (omega arith)) (omega arith) (omega arith)
over-exact (negsuc n) e h l = divided (round binary32 true (suc n) 1) true (suc n) e (round_whole binary32 true (suc n) (omega arith)) (omega arith) (omega arith)
