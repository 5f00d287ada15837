-- Facts about rounding to binary32: the result is never NaN; it is at most q * 2 ^ j if the exact value is; and it is not zero if the exact value
-- is at least the smallest positive binary32. In units of that smallest number the result is a multiple of 2 ^ k, where k is the number of binary
-- digits dropped. Assumes nothing.
use Prim.Native.Nat.{ℕ, zero, suc, ◌+◌, ◌-◌, ◌*◌, ◌/◌, ◌%◌, ◌^◌, ◌<◌, ◌≤◌, compare}
use mathlib.Core.Path.{◌≡◌, refl, sym, ap, ◌∙◌, subst}
use mathlib.Core.Bool.{Bool, true, false, ◌&&◌, ◌||◌, beq, cond, true≢false}
use native.Mathlib.Nat.{div-one, mod-one, div-le_of_le-mul, div-mul-le_self, le-div_iff_mul-le, one-mul, lt_of_le_of_lt, le_trans, le_of_eq, mul_assoc, mul_comm, mul_right_comm, mul-mul-mul_comm, mul-one, zero-mul, mul-pos, mul-le-mul, mul-le-mul_right, le_of_mul-le-mul_right, lt_of_lt_of_le}
use native.Mathlib.Omega.{arith}
use lib.Dec.{ltb, eqb}
use lib.Pow.{pow-add, pow_pos, pow-lt, pow_mono, shl_lt}
use lib.IntN.{ℤ}
use lib.Ieee.{Float, nan, inf, fin, binary32, up, down, unlike, level, size, nearest, odd, units, round, add, sum, mul, div, eq, is_nan, of_bits}
use lib.Ieee.Digits.{size-le, size_reaches}
use lib.Ieee.Exact.{HasValue, odd_sign, units_val}
use lib.Ieee.Fits.{round_is, up_pos, down_pos}
use lib.Ieee.Nearest.{nearest-ge, closest, closest_mono}
use lib.Ieee.Positive.{first_pos}
use lib.Ieee.Scale.{round_same}
use borrow.Author.Tests.{ne_eqb}
use Rattle.floats.specs.Floats.{◌⊕◌, ◌⊗◌, ◌⊘◌, is_zero}

-- ---- rounding never gives NaN

units_number : (s : Bool) (q k : ℕ) → is_nan (units binary32 s q k) ≡ false
unfolding units odd is_nan
units_number s q k = by (ltb (q * 2 ^ k) (2 ^ 277)) q
  where
    by : (b : Bool) (q : ℕ) → is_nan (cond b (odd 25 s q k 149) (inf s)) ≡ false
    by true zero = refl
    by true (suc q) = refl
    by false q = refl

pub round_number : (s : Bool) (a c : ℕ) → is_nan (round binary32 s a c) ≡ false
round_number s a c = ap is_nan (round_is binary32 s a c) ∙ units_number s _ _

-- ---- no zero

-- x is finite, and its magnitude is at most q
abbrev pub Within : Float → ℕ → Type 0
Within nan q = ⊥
Within (inf s) q = ⊥
Within (fin s m e) q = m * up e ≤ q * down e

-- x is neither NaN nor zero; it may be infinite
abbrev pub Some : Float → Type 0
Some nan = ⊥
Some (inf s) = Unit {0}
Some (fin s m e) = 0 < m

units-some : (s : Bool) (q k : ℕ) → 1 ≤ q → Some (units binary32 s q k)
unfolding units
units-some s q k h = by (ltb (q * 2 ^ k) (2 ^ 277))
  where
    digit : (x : Float) → HasValue x s (q * 2 ^ k) (2 ^ 149) → Some x
    digit nan v = absurd v
    digit (inf t) v = absurd v
    digit (fin t m e) v =
        first_pos m (up e) (first_pos (m * up e) (2 ^ 149) (subst (λ (x : ℕ). 0 < x) (sym v.1) (mul-pos (mul-pos h (pow_pos k)) (down_pos e))))

    by : (b : Bool) → Some (cond b (odd 25 s q k 149) (inf s))
    by true = digit (odd 25 s q k 149) (odd_sign 25 s q k 149)
    by false = tt

-- such an x fails the test for zero
pub some-not-zero : (x : Float) → Some x → is_zero x ≡ false
unfolding eq of_bits
some-not-zero nan h = absurd h
some-not-zero (inf s) h = refl
some-not-zero (fin s m e) h =
    ap (λ (b : Bool). b && (beq s false || eqb (m * up e * 1) 0))
    (ne_eqb (m * up e * 1) (0 * down e) (λ q. let z : m * up e ≡ 0 = sym (mul-one (m * up e)) ∙ q ∙ zero-mul (down e) in let p = mul-pos h (up_pos e) in let y : ⊥ = omega arith in y))

both_zero : (s : Bool) (a b : ℕ) → a ≡ 0 → b ≡ 0 → level s a false b ≡ true
both_zero true a b p q = rw (p, q) refl
both_zero false a b p q = rw (p, q) refl

pub not-zero-some : (x : Float) (q : ℕ) → Within x q → is_zero x ≡ false → Some x
unfolding eq of_bits
not-zero-some nan q w h = absurd w
not-zero-some (inf s) q w h = absurd w
not-zero-some (fin s zero e) q w h =
    absurd (true≢false (sym (both_zero s (0 * up e * 1) (0 * down e) (mul-one (0 * up e) ∙ zero-mul (up e)) (zero-mul (down e))) ∙ h))
not-zero-some (fin s (suc m) e) q w h = omega arith

-- ---- a bound

pub within-number : (x : Float) (q : ℕ) → Within x q → is_nan x ≡ false
unfolding is_nan
within-number nan q h = absurd h
within-number (inf s) q h = absurd h
within-number (fin s m e) q h = refl

pub within_more : (x : Float) (p q : ℕ) → p ≤ q → Within x p → Within x q
within_more nan p q l h = h
within_more (inf s) p q l h = h
within_more (fin s m e) p q l h = le_trans h (mul-le-mul_right (down e) l)

-- a float with the value a / c is within q if a / c is
pub within_of : (x : Float) (s : Bool) (a c q : ℕ) → 0 < c → HasValue x s a c → a ≤ q * c → Within x q
within_of nan s a c q p v h = absurd v
within_of (inf t) s a c q p v h = absurd v
within_of (fin t m e) s a c q p v h =
    le_of_mul-le-mul_right {m = m * up e} {n = q * down e} {k = c} (le_trans (le_of_eq v.1) (le_trans (mul-le-mul_right (down e) h) (le_of_eq (mul_right_comm q c (down e))))) p

whole-closest : (x : ℕ) → closest x 1 ≡ x
whole-closest x = ap (λ (y : ℕ). nearest y (compare (x % 1 * 2) 1)) (div-one x) ∙ ap (λ (y : ℕ). nearest x (compare (y * 2) 1)) (mod-one x)

-- n / c is a / c in units of the smallest positive number, k the number of binary digits dropped, `left` what is kept
module _ (a c : ℕ) (some : 0 < c) where
  abbrev n : ℕ
  n = a * 2 ^ 149

  abbrev k : ℕ
  k = size (n / c) - 24

  abbrev left : ℕ
  left = closest n (c * 2 ^ k)

  round-units : (s : Bool) → round binary32 s a c ≡ units binary32 s left k
  round-units s = round_is binary32 s a c

  module _ (q j : ℕ) (small : q < 2 ^ 24) (h : a ≤ q * 2 ^ j * c) where
    in-units : n ≤ q * 2 ^ (j + 149) * c
    in-units =
        le_trans (mul-le-mul_right (2 ^ 149) h)
        (le_of_eq (mul_right_comm (q * 2 ^ j) c (2 ^ 149) ∙ ap (λ (x : ℕ). x * c) (mul_assoc q (2 ^ j) (2 ^ 149) ∙ ap (λ (x : ℕ). q * x) (sym (pow-add 2 j 149)))))

    dropped : k ≤ j + 149
    dropped =
        let d : n / c ≤ q * 2 ^ (j + 149) = div-le_of_le-mul c (le_trans in-units (le_of_eq (mul_comm (q * 2 ^ (j + 149)) c))) in
        let z = size-le (n / c) (24 + (j + 149)) (lt_of_le_of_lt d (shl_lt 24 (j + 149) small)) in
        omega arith

    joined : q * 2 ^ (j + 149 - k) * 2 ^ k ≡ q * 2 ^ (j + 149)
    joined =
        let z : j + 149 - k + k ≡ j + 149 = let d = dropped in omega arith in
        mul_assoc q (2 ^ (j + 149 - k)) (2 ^ k) ∙ ap (λ (x : ℕ). q * x) (sym (pow-add 2 (j + 149 - k) k) ∙ ap (λ (x : ℕ). 2 ^ x) z)

    left_le : left ≤ q * 2 ^ (j + 149 - k)
    left_le =
        subst (λ (x : ℕ). left ≤ x) (whole-closest (q * 2 ^ (j + 149 - k)))
        (closest_mono n (c * 2 ^ k) (q * 2 ^ (j + 149 - k)) 1 (mul-pos some (pow_pos k)) (omega arith)
        (le_trans (le_of_eq (mul-one n)) (le_trans in-units (le_of_eq (ap (λ (x : ℕ). x * c) (sym joined) ∙ mul_assoc (q * 2 ^ (j + 149 - k)) (2 ^ k) c ∙ ap (λ (x : ℕ). q * 2 ^ (j + 149 - k) * x) (mul_comm (2 ^ k) c))))))

    kept-le : left * 2 ^ k ≤ q * 2 ^ j * 2 ^ 149
    kept-le =
        le_trans (mul-le-mul_right (2 ^ k) left_le)
        (le_of_eq (joined ∙ ap (λ (x : ℕ). q * x) (pow-add 2 j 149) ∙ sym (mul_assoc q (2 ^ j) (2 ^ 149))))

    pub round-within : (s : Bool) → q * 2 ^ j < 2 ^ 128 → Within (round binary32 s a c) (q * 2 ^ j)
    round-within s fine =
        let l = kept-le in
        subst (λ (x : Float). Within x (q * 2 ^ j)) (sym (round-units s))
        (within_of (units binary32 s left k) s (left * 2 ^ k) (2 ^ 149) (q * 2 ^ j) (pow_pos 149) (units_val binary32 s left k (lt_of_le_of_lt l (shl_lt 128 149 fine))) l)

  -- ---- no zero

  module _ (h : c ≤ n) where
    some_left : 1 ≤ left
    some_left =
        le_trans ((le-div_iff_mul-le (mul-pos some (pow_pos k))).1 (le_trans (le_of_eq (one-mul (c * 2 ^ k))) (reaches k refl))) (nearest-ge (n / (c * 2 ^ k)) (compare (n % (c * 2 ^ k) * 2) (c * 2 ^ k)))
      where
        whole : 2 ^ k ≤ n / c → c * 2 ^ k ≤ n
        whole g = le_trans (le_of_eq (mul_comm c (2 ^ k))) (le_trans (mul-le-mul_right c g) (div-mul-le_self n c))

        reaches : (d : ℕ) → k ≡ d → c * 2 ^ k ≤ n
        reaches zero e = le_trans (le_of_eq (ap (λ (x : ℕ). c * 2 ^ x) e ∙ mul-one c)) h
        reaches (suc d) e = whole (size_reaches (n / c) k (omega arith))

    -- the result is infinite, or finite and not zero
    pub round-some : (s : Bool) → Some (round binary32 s a c)
    round-some s = subst Some (sym (round-units s)) (units-some s left k some_left)

-- ---- sums, products and quotients

pub product-number : (x y : Float) (p q : ℕ) → Within x p → Within y q → is_nan (x ⊗ y) ≡ false
unfolding mul
product-number nan y p q w v = absurd w
product-number (inf s) y p q w v = absurd w
product-number (fin s m e) nan p q w v = absurd v
product-number (fin s m e) (inf t) p q w v = absurd v
product-number (fin s m e) (fin t n d) p q w v = round_number (unlike s t) (m * up e * (n * up d)) (down e * down d)

sum_number : (s t : Bool) (a b c : ℕ) → is_nan (sum binary32 s a t b c) ≡ false
unfolding sum
sum_number s t a b c = by (beq s t) (ltb a b)
  where
    by : (u v : Bool) → is_nan (cond u (round binary32 s (a + b) c) (cond v (round binary32 t (b - a) c) (round binary32 (s && ltb b a) (a - b) c))) ≡ false
    by true v = round_number s (a + b) c
    by false true = round_number t (b - a) c
    by false false = round_number (s && ltb b a) (a - b) c

-- the sum of a finite number and one that may be infinite is not NaN
pub sum-is-number : (x y : Float) (q : ℕ) → is_nan x ≡ false → Within y q → is_nan (x ⊕ y) ≡ false
unfolding add is_nan
sum-is-number nan y q e v = absurd (true≢false e)
sum-is-number (inf s) nan q e v = absurd v
sum-is-number (inf s) (inf t) q e v = absurd v
sum-is-number (inf s) (fin t n d) q e v = refl
sum-is-number (fin s m e) nan q _ v = absurd v
sum-is-number (fin s m e) (inf t) q _ v = absurd v
sum-is-number (fin s m e) (fin t n d) q _ v = sum_number s t (m * up e * down d) (n * up d * down e) (down e * down d)

-- the quotient by a finite number other than zero is not NaN
pub quotient-number : (x y : Float) (q : ℕ) → is_nan x ≡ false → Within y q → Some y → is_nan (x ⊘ y) ≡ false
unfolding div is_nan
quotient-number nan y q e v o = absurd (true≢false e)
quotient-number (inf s) nan q e v o = absurd v
quotient-number (inf s) (inf t) q e v o = absurd v
quotient-number (inf s) (fin t n d) q e v o = refl
quotient-number (fin s m e) nan q _ v o = absurd v
quotient-number (fin s m e) (inf t) q _ v o = absurd v
quotient-number (fin s m e) (fin t n d) q _ v o =
    rw (ne_eqb n 0 (λ z. let y : ⊥ = omega arith in y)) (round_number (unlike s t) (m * up e * down d) (n * up d * down e))

-- if x is at most 2 ^ i and y at most 2 ^ j in magnitude, their product is at most 2 ^ (i + j)
pub product-within : (x y : Float) (i j : ℕ) → i + j < 128 → Within x (2 ^ i) → Within y (2 ^ j) → Within (x ⊗ y) (2 ^ (i + j))
unfolding mul
product-within nan y i j l w v = absurd w
product-within (inf s) y i j l w v = absurd w
product-within (fin s m e) nan i j l w v = absurd v
product-within (fin s m e) (inf t) i j l w v = absurd v
product-within (fin s m e) (fin t n d) i j l w v =
    let h : m * up e * (n * up d) ≤ 1 * 2 ^ (i + j) * (down e * down d) =
    le_trans (mul-le-mul w v) (le_of_eq (mul-mul-mul_comm (2 ^ i) (down e) (2 ^ j) (down d) ∙ ap (λ (x : ℕ). x * (down e * down d)) (sym (pow-add 2 i j) ∙ sym (one-mul (2 ^ (i + j)))))) in
    subst (λ (q : ℕ). Within (round binary32 (unlike s t) (m * up e * (n * up d)) (down e * down d)) q) (one-mul (2 ^ (i + j)))
    (round-within (m * up e * (n * up d)) (down e * down d) (mul-pos (down_pos e) (down_pos d)) 1 (i + j) (omega arith) h (unlike s t)
    (lt_of_le_of_lt (le_of_eq (one-mul (2 ^ (i + j)))) (pow-lt {i = i + j} {j = 128} l)))

-- the product of two floats is one rounding of the product of their fractions
pub product_at : (x y : Float) (s t : Bool) (a c b d : ℕ) → 0 < c → 0 < d → HasValue x s a c → HasValue y t b d → x ⊗ y ≡ round binary32 (unlike s t) (a * b) (c * d)
unfolding mul
product_at nan y s t a c b d C D v w = absurd v
product_at (inf u) y s t a c b d C D v w = absurd v
product_at (fin u m e) nan s t a c b d C D v w = absurd w
product_at (fin u m e) (inf z) s t a c b d C D v w = absurd w
product_at (fin u m e) (fin z n g) s t a c b d C D v w =
    ap (λ (r : Bool). round binary32 r (m * up e * (n * up g)) (down e * down g)) (ap (λ (k : Bool). unlike k z) v.0 ∙ ap (unlike s) w.0)
    ∙ round_same binary32 (unlike s t) (m * up e * (n * up g)) (down e * down g) (a * b) (c * d) (mul-pos (down_pos e) (down_pos g)) (mul-pos C D)
    (mul-mul-mul_comm (m * up e) (n * up g) c d ∙ ap (λ (k : ℕ). k * (n * up g * d)) v.1 ∙ ap (λ (k : ℕ). a * down e * k) w.1 ∙ mul-mul-mul_comm a (down e) b (down g))

-- dividing by a number of magnitude 1 or more does not exceed the bound
pub quotient-within : (x : Float) (t : Bool) (n : ℕ) (d : ℤ) (q : ℕ) → q < 2 ^ 24 → down d ≤ n * up d → 0 < n → Within x q → Within (x ⊘ fin t n d) q
unfolding div
quotient-within nan t n d q l h o w = absurd w
quotient-within (inf s) t n d q l h o w = absurd w
quotient-within (fin s m e) t n d q l h o w =
    let b : m * up e * down d ≤ q * 1 * (n * up d * down e) =
    le_trans (mul-le-mul w h) (le_of_eq (mul_assoc q (down e) (n * up d) ∙ ap (λ (k : ℕ). q * k) (mul_comm (down e) (n * up d)) ∙ ap (λ (k : ℕ). k * (n * up d * down e)) (sym (mul-one q)))) in
    rw (ne_eqb n 0 (λ z. let y : ⊥ = omega arith in y))
    (subst (Within (round binary32 (unlike s t) (m * up e * down d) (n * up d * down e))) (mul-one q)
    (round-within (m * up e * down d) (n * up d * down e) (mul-pos (mul-pos o (up_pos d)) (down_pos e)) q 0 l b (unlike s t) (lt_of_lt_of_le (shl_lt 24 0 l) (pow_mono {i = 24} {j = 128} (omega arith)))))
