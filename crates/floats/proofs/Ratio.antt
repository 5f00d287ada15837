-- Floats as fractions whose denominator is a power of two below 2 ^ 128: whole numbers, their quotients by powers of two, and 1 plus such a fraction.
-- Assumes nothing.
use Prim.Native.Nat.{ℕ, zero, suc, ◌+◌, ◌-◌, ◌*◌, ◌/◌, ◌%◌, ◌^◌, ◌<◌, ◌≤◌}
use mathlib.Core.Path.{◌≡◌, refl, sym, ap, ◌∙◌, subst}
use mathlib.Core.Bool.{Bool, true, false, ◌&&◌, cond}
use native.Mathlib.Nat.{mul-one, one-mul, mul_comm, add-mul, mul-le-mul_left, mul-le-mul_right, le_of_mul-le-mul_right, le-mul_of_pos_right, le_trans, le_of_eq, lt_of_lt_of_le, mul-mod_left, pow-suc}
use native.Mathlib.Omega.{arith}
use lib.Dec.{ltb}
use lib.IntN.{ℤ, pos, negsuc}
use lib.Pow.{pow_pos, pow_mono, shl_lt}
use lib.Ieee.{Float, nan, inf, fin, binary32, up, down, unlike, round, add, sum, div, of_int, of_bits}
use lib.Ieee.Back.{round_whole}
use lib.Ieee.Exact.{HasValue}
use lib.Ieee.Fits.{down_pos}
use borrow.Author.Tests.{ltb-true, ltb-false}
use Rattle.floats.specs.Floats.{◌⊕◌, ◌⊗◌, ◌⊘◌, real, over}
use Rattle.floats.specs.Constants.{one}
use Rattle.floats.proofs.Power.{power-above}
use Rattle.floats.proofs.Exact.{fraction, divided}
use Rattle.floats.proofs.Bound.{Within, within_of, Some, round-within, round-some, product_at}

-- the magnitude of a whole number
abbrev pub large : ℤ → ℕ
large (pos n) = n
large (negsuc n) = suc n

abbrev pub below-zero : ℤ → Bool
below-zero (pos n) = false
below-zero (negsuc n) = true

pub real-value : (z : ℤ) → large z < 2 ^ 24 → HasValue (real z) (below-zero z) (large z) 1
unfolding of_int
real-value (pos n) h = round_whole binary32 false n (omega arith)
real-value (negsuc n) h = round_whole binary32 true (suc n) (omega arith)

pub real-within : (z : ℤ) → large z < 2 ^ 24 → Within (real z) (large z)
real-within z h = within_of (real z) (below-zero z) (large z) 1 (large z) (omega arith) (real-value z h) (omega arith)

-- ---- a fraction of at most `top`

-- x is exactly a fraction whose numerator is at most `top` and whose denominator is a power of two below 2 ^ 128
pub record Ratio (x : Float) (top : ℕ) : Type 0 where
  pub sign : Bool
  pub digits : ℕ
  pub power : ℕ
  pub few : digits ≤ top
  pub low : power < 128
  pub value : HasValue x sign digits (2 ^ power)

pub ratio-within : {x : Float} {top : ℕ} → Ratio x top → Within x top
ratio-within {x} {top} r =
    within_of x r.sign r.digits (2 ^ r.power) top (pow_pos r.power) r.value (le_trans r.few (le-mul_of_pos_right top (pow_pos r.power)))

unlike-false : (s : Bool) → unlike s false ≡ s
unlike-false true = refl
unlike-false false = refl

by-infinity : (x : Float) (s : Bool) (n : ℕ) → HasValue x s n 1 → HasValue (x ⊘ inf false) s 0 (2 ^ 0)
unfolding div
by-infinity nan s n v = absurd v
by-infinity (inf t) s n v = absurd v
by-infinity (fin t m e) s n v = (unlike-false t ∙ v.0, refl)

-- a whole number over 2 ^ e is such a fraction for every e: from e = 128 on the quotient is zero
pub over-ratio : (z : ℤ) (e top : ℕ) → large z ≤ top → top < 2 ^ 24 → Ratio (over z e) top
over-ratio z e top h l = by (ltb e 128) refl
  where
    v : HasValue (real z) (below-zero z) (large z) 1
    v = real-value z (omega arith)

    by : (b : Bool) → ltb e 128 ≡ b → Ratio (over z e) top
    by true k = record {
      sign = below-zero z;
      digits = large z;
      power = e;
      few = h;
      low = ltb-true e 128 k;
      value = divided (real z) (below-zero z) (large z) e v (omega arith) (ltb-true e 128 k);
    }
    by false k = record {
      sign = below-zero z;
      digits = 0;
      power = 0;
      few = omega arith;
      low = omega arith;
      value = subst (λ (p : Float). HasValue (real z ⊘ p) (below-zero z) 0 (2 ^ 0)) (sym (power-above e (ltb-false e 128 k))) (by-infinity (real z) (below-zero z) (large z) v);
    }

-- such a fraction times a whole number is not rounded either
pub times-ratio : {x : Float} {top : ℕ} (r : Ratio x top) (z : ℤ) → large z < 2 ^ 24 → r.digits * large z < 2 ^ 24
    → HasValue (x ⊗ real z) (unlike r.sign (below-zero z)) (r.digits * large z) (2 ^ r.power)
times-ratio {x} r z h l =
    let p = r.power in
    let u = unlike r.sign (below-zero z) in
    subst (λ (y : Float). HasValue y u (r.digits * large z) (2 ^ p))
    (sym (product_at x (real z) r.sign (below-zero z) r.digits (2 ^ p) (large z) 1 (pow_pos p) (omega arith) r.value (real-value z h)
    ∙ ap (λ (c : ℕ). round binary32 u (r.digits * large z) c) (mul-one (2 ^ p))))
    (fraction u (r.digits * large z) p l r.low)

-- ---- 1 plus a fraction

-- 1 + x as one rounding, for x = m / c with the sign t
abbrev plus : Bool → ℕ → ℕ → Float
plus t m c = sum binary32 false (1 * 1 * c) t (m * 1) (1 * c)

module _ (m c b : ℕ) (some : 0 < c) (h : m ≤ b * c) (few : b + 1 < 2 ^ 24) where
  rounded : (s : Bool) (a : ℕ) → a ≤ (b + 1) * c → Within (round binary32 s a (1 * c)) (b + 1)
  rounded s a l =
      subst (Within (round binary32 s a (1 * c))) (mul-one (b + 1))
      (round-within a (1 * c) (omega arith) (b + 1) 0 few (le_trans l (le_of_eq (ap (λ (x : ℕ). x * c) (sym (mul-one (b + 1))) ∙ ap (λ (x : ℕ). (b + 1) * 1 * x) (sym (one-mul c))))) s (lt_of_lt_of_le (shl_lt 24 0 few) (pow_mono {i = 24} {j = 128} (omega arith))))

  all : b * c + c ≡ (b + 1) * c
  all = ap (λ (x : ℕ). b * c + x) (sym (one-mul c)) ∙ sym (add-mul b 1 c)

  plus-within : (t : Bool) → Within (plus t m c) (b + 1)
  unfolding sum
  plus-within false = rounded false (1 * 1 * c + m * 1) (let a = all in omega arith)
  plus-within true = by (ltb (1 * 1 * c) (m * 1))
    where
      by : (d : Bool) → Within (cond d (round binary32 true (m * 1 - 1 * 1 * c) (1 * c)) (round binary32 (false && ltb (m * 1) (1 * 1 * c)) (1 * 1 * c - m * 1) (1 * c))) (b + 1)
      by true = rounded true (m * 1 - 1 * 1 * c) (let a = all in omega arith)
      by false = rounded false (1 * 1 * c - m * 1) (let a = all in omega arith)

-- 1 + x is at most b + 1 in magnitude, if x is b / 2 ^ p
pub one-within : (x : Float) (s : Bool) (b p : ℕ) → HasValue x s b (2 ^ p) → b + 1 < 2 ^ 24 → Within (one ⊕ x) (b + 1)
unfolding add of_bits
one-within nan s b p v l = absurd v
one-within (inf t) s b p v l = absurd v
one-within (fin t m e) s b p v l =
    plus-within (m * up e) (down e) b (down_pos e) (le_trans (le-mul_of_pos_right (m * up e) (pow_pos p)) (le_of_eq v.1)) l t

-- ---- 1 plus a fraction is not zero unless the fraction is -1

-- if d / c = b / p is not 1 and d is below c by x, then x / c is at least 1 / p
apart : (c d b p x : ℕ) → 0 < c → d * p ≡ b * c → c ≡ d + x → (b ≡ p → ⊥) → c ≤ x * p
apart c d b p x some e s ne =
    let f : c * p ≡ b * c + x * p = ap (λ (k : ℕ). k * p) s ∙ add-mul d x p ∙ ap (λ (k : ℕ). k + x * p) e in
    let g : b ≤ p = le_of_mul-le-mul_right {m = b} {n = p} {k = c} (let q = mul_comm c p in omega arith) some in
    let k : b + 1 ≤ p = omega arith in
    let m : (b + 1) * c ≤ p * c = mul-le-mul_right c k in
    let y : (b + 1) * c ≡ b * c + c = add-mul b 1 c ∙ ap (λ (z : ℕ). b * c + z) (one-mul c) in
    let q = mul_comm c p in
    omega arith

-- the same if d is above c by x
apart-up : (c d b p x : ℕ) → 0 < c → d * p ≡ b * c → d ≡ c + x → (b ≡ p → ⊥) → c ≤ x * p
apart-up c d b p x some e s ne =
    let f : b * c ≡ c * p + x * p = sym e ∙ ap (λ (k : ℕ). k * p) s ∙ add-mul c x p in
    let q = mul_comm c p in
    let g : p ≤ b = le_of_mul-le-mul_right {m = p} {n = b} {k = c} (omega arith) some in
    let k : p + 1 ≤ b = omega arith in
    let m : (p + 1) * c ≤ b * c = mul-le-mul_right c k in
    let y : (p + 1) * c ≡ p * c + c = add-mul p 1 c ∙ ap (λ (z : ℕ). p * c + z) (one-mul c) in
    omega arith

module _ (m c b p : ℕ) (some : 0 < c) (e : m * 2 ^ p ≡ b * c) (low : p < 128) (ne : b ≡ 2 ^ p → ⊥) where
  rounded-some : (s : Bool) (a : ℕ) → c ≤ a * 2 ^ p → Some (round binary32 s a (1 * c))
  rounded-some s a l =
      round-some a (1 * c) (omega arith)
      (le_trans (le_of_eq (one-mul c)) (le_trans l (mul-le-mul_left a (pow_mono {i = p} {j = 149} (omega arith))))) s

  plus-some : (t : Bool) → Some (plus t m c)
  unfolding sum
  plus-some false =
      rounded-some false (1 * 1 * c + m * 1) (le_trans (let z : c ≤ 1 * 1 * c + m * 1 = omega arith in z) (le-mul_of_pos_right (1 * 1 * c + m * 1) (pow_pos p)))
  plus-some true = by (ltb (1 * 1 * c) (m * 1)) refl
    where
      by : (d : Bool) → ltb (1 * 1 * c) (m * 1) ≡ d
          → Some (cond d (round binary32 true (m * 1 - 1 * 1 * c) (1 * c)) (round binary32 (false && ltb (m * 1) (1 * 1 * c)) (1 * 1 * c - m * 1) (1 * c)))
      by true k =
          let h = ltb-true (1 * 1 * c) (m * 1) k in
          rounded-some true (m * 1 - 1 * 1 * c) (apart-up c m b (2 ^ p) (m * 1 - 1 * 1 * c) some e (omega arith) ne)
      by false k =
          let h = ltb-false (1 * 1 * c) (m * 1) k in
          rounded-some false (1 * 1 * c - m * 1) (apart c m b (2 ^ p) (1 * 1 * c - m * 1) some e (omega arith) ne)

pub one-some : (x : Float) (s : Bool) (b p : ℕ) → HasValue x s b (2 ^ p) → p < 128 → (b ≡ 2 ^ p → ⊥) → Some (one ⊕ x)
unfolding add of_bits
one-some nan s b p v l ne = absurd v
one-some (inf t) s b p v l ne = absurd v
one-some (fin t m e) s b p v l ne = plus-some (m * up e) (down e) b p (down_pos e) v.1 l ne t

-- a power of two has no factor 5
fifth : (x : ℕ) → x * 2 % 5 ≡ 0 → x % 5 ≡ 0
fifth x h =
    let k = x * 2 / 5 in
    let e : x ≡ (3 * k - x) * 5 = omega arith in
    ap (λ (n : ℕ). n % 5) e ∙ mul-mod_left (3 * k - x) 5

pub no-five : (p : ℕ) → 2 ^ p % 5 ≡ 0 → ⊥
no-five zero h = omega arith
no-five (suc p) h = no-five p (fifth (2 ^ p) (sym (ap (λ (n : ℕ). n % 5) (pow-suc 2 p)) ∙ h))
