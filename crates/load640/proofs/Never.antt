-- 13 never holds: below the basic range corners are a multiple of 5 apart and K is over a power of two, so 1 + K × (T next - T own) is no zero.
-- Assumes nothing.
use Prim.Native.Nat.{ℕ, zero, suc, ◌+◌, ◌-◌, ◌*◌, ◌/◌, ◌%◌, ◌^◌, ◌<◌, ◌≤◌}
use mathlib.Core.Path.{◌≡◌, refl, sym, ap, ◌∙◌, subst}
use mathlib.Core.Bool.{Bool, true, false, true≢false}
use mathlib.Core.List.{List, [], ◌∷◌}
use native.Mathlib.Nat.{mul_assoc, mul-le-mul, mul-mod_left, mod-lt}
use native.Mathlib.Omega.{arith}
use lib.Dec.{ltb, lit<}
use lib.IntN.{ℤ, pos, negsuc, ◌-ℤ◌}
use lib.Signed.{mag}
use lib.Ieee.{Float}
use borrow.Author.Tests.{le-ltb, leb-false}
use Rattle.floats.specs.Floats.{◌⊕◌, ◌⊗◌, real, over}
use Rattle.floats.specs.Constants.{one}
use Rattle.floats.proofs.Bound.{Some, some-not-zero}
use Rattle.floats.proofs.Ratio.{large, Ratio, over-ratio, times-ratio, one-some, no-five}
use Rattle.refusal.specs.declared.Refusal.{Refusal}
use Rattle.refusal.specs.declared.Refusal.TheVariants.{ZeroFactor}
use Rattle.std.specs.Prelude.{⊤, Result, Err}
use Rattle.refusal.specs.Order.{Test, ◌refuses◌, first_of}
use Rattle.refusal.specs.Refusal.{told_of, verdict_told}
use Rattle.refusal.proofs.Order.{never}
use Rattle.util.specs.Fields.{signed}
use Rattle.util.specs.Words.{word_at}
use Rattle.util.proofs.Width.{stands}
use Rattle.ranges.specs.Coefficients.{growth}
use Rattle.ranges.proofs.Zero as none
use Rattle.record640.specs.Record.{corners_of, corners_at, k_s_tos}
use Rattle.load640.specs.Load.{range_count, data_tests, load_tests}
use Rattle.load640.specs.Never.{NoZero, Never}

-- ---- K: a signed byte over a power of two

field-large : (n : ℕ) → large (signed 8 n) ≤ 128
field-large n = by (signed 8 n) ((stands 8 (omega arith)).range n)
  where
    by : (z : ℤ) → mag z < 128 → large z ≤ 128
    by (pos k) h = omega arith
    by (negsuc k) h = omega arith

field-ratio : (n e : ℕ) → Ratio (over (signed 8 n) e) 128
field-ratio n e = over-ratio (signed 8 n) e 128 (field-large n) (omega arith)

-- ---- 1 + K × (T next - T own), over any K, where the corners are a multiple of 5 apart

grown-some : (x : Float) → Ratio x 128 → (z : ℤ) (five : ℕ) → z ≡ pos (five * 5) → five ≤ 90 → Some (one ⊕ x ⊗ real z)
grown-some x k z five e l =
    let b : k.digits * (five * 5) ≤ 128 * 450 = mul-le-mul k.few (let z : five * 5 ≤ 450 = omega arith in z) in
    subst (λ (z : ℤ). Some (one ⊕ x ⊗ real z)) (sym e)
    (one-some (x ⊗ real (pos (five * 5))) _ (k.digits * (five * 5)) k.power (times-ratio k (pos (five * 5)) (omega arith) (omega arith)) k.low
    (λ q. no-five k.power (ap (λ (n : ℕ). n % 5) (sym q ∙ sym (mul_assoc k.digits five 5)) ∙ mul-mod_left (k.digits * five) 5)))

-- so many steps, each a multiple of ten
fives : (n s : ℕ) → n * (s * 10) ≡ n * s * 2 * 5
fives n s = sym (mul_assoc n s 10) ∙ (let z : n * s * 10 ≡ n * s * 2 * 5 = omega arith in z)

few : (n s : ℕ) → n * s ≤ 15 * 3 → n * s * 2 ≤ 90
few n s h = omega arith

steps : (m n : ℕ) → m % 16 * (n % 4) ≤ 15 * 3
steps m n =
    mul-le-mul (let h = mod-lt m (let z : 0 < 16 = lit< tt in z) in let y : m % 16 ≤ 15 = omega arith in y) (let h = mod-lt n (let z : 0 < 4 = lit< tt in z) in let y : n % 4 ≤ 3 = omega arith in y)

-- what a corner is above one that it was added to
above_other : (a b : ℕ) → pos (a + b) -ℤ pos b ≡ pos a
above_other a zero = ap pos (let z : a + 0 + 0 ≡ a = omega arith in z)
above_other a (suc b) =
    rw (le-ltb (a + suc b) (suc b) (omega arith)) (ap pos (let z : a + suc b - suc b ≡ a = omega arith in z))

above_zero : (a : ℕ) → pos a -ℤ pos 0 ≡ pos a
above_zero a = ap pos (let z : a + 0 ≡ a = omega arith in z)

-- ---- a card's growths

module _ (w : ℕ → ℕ) where
  growth-some : (r : ℕ) → r < 3 → Some (growth (corners_at w) (k_s_tos w) r)
  unfolding growth k_s_tos corners_at corners_of
  growth-some zero h = grown-some _ (field-ratio _ _) _ 8 refl (omega arith)
  growth-some (suc zero) h =
      grown-some _ (field-ratio _ _) _ _ (above_zero _ ∙ ap pos (fives (w 63 / 2 ^ 4 % 16) (w 63 / 2 ^ 12 % 4))) (few (w 63 / 2 ^ 4 % 16) (w 63 / 2 ^ 12 % 4) (steps (w 63 / 2 ^ 4) (w 63 / 2 ^ 12)))
  growth-some (suc (suc zero)) h =
      grown-some _ (field-ratio _ _) _ _ (above_other _ (w 63 / 2 ^ 4 % 16 * (w 63 / 2 ^ 12 % 4 * 10)) ∙ ap pos (fives (w 63 / 2 ^ 8 % 16) (w 63 / 2 ^ 12 % 4))) (few (w 63 / 2 ^ 8 % 16) (w 63 / 2 ^ 12 % 4) (steps (w 63 / 2 ^ 8) (w 63 / 2 ^ 12)))
  growth-some (suc (suc (suc r))) h = absurd (let q : ⊥ = omega arith in q)

pub no_zero : NoZero
no_zero w range h = none.no_zero range_count (corners_at w) (k_s_tos w) range (λ r l. some-not-zero (growth (corners_at w) (k_s_tos w) r) (growth-some w r (omega arith)))

-- ---- no load is refused for it

-- another refusal is not it, so its test does not hold
other : (holds : Bool) (refusal : Refusal) (rest : List Test) (at : ℕ) → ((told_of refusal).number ≡ 13 → ⊥) → first_of (holds refuses refusal ∷ rest) ≡ Err (ZeroFactor at)
    → (holds ≡ false) × (first_of rest ≡ Err (ZeroFactor at))
unfolding first_of
other true refusal rest at ne e = absurd (ne (ap (λ (v : Result ⊤ Refusal). (verdict_told v).number) e))
other false refusal rest at ne e = (refl, e)

alone : (holds : Bool) (refusal : Refusal) (at : ℕ) → holds ≡ false → first_of (holds refuses refusal ∷ []) ≡ Err (ZeroFactor at) → ⊥
unfolding first_of
alone true refusal at h e = true≢false h
alone false refusal at h e = never (ZeroFactor at) (sym e)

pub never-13 : Never
unfolding load_tests data_tests
never-13 image range t at e =
    let p = other _ _ _ at (λ q. omega arith) e in
    let q = other _ _ _ at (λ q. omega arith) p.1 in
    let r = other _ _ _ at (λ q. omega arith) q.1 in
    let s = other _ _ _ at (λ q. omega arith) r.1 in
    alone _ _ at (ap (λ (n : ℕ). ltb n range_count) (no_zero (word_at image) range (leb-false _ _ s.0))) s.1
