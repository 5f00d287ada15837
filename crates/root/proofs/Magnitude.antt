-- Magnitudes of bits: by exponent and significand, the next bits have a larger one, and the nearest whole root gives the bits of the nearest root.
-- Assumes nothing.
use Rattle.std.proofs.Common.{◌≡◌, ℕ, zero, suc, ◌+◌, ◌-◌, ◌*◌, ◌/◌, ◌%◌, ◌^◌, ◌<◌, ◌≤◌, ◌⊎◌, sym, refl, ap, ◌∙◌, subst, inl, inr, lt_of_lt_of_le, lt_of_le_of_lt, mul-le-mul_right, mul_assoc, eq-or-lt_of_le, mul-lt-mul_of_pos_right, lt_of_not-le, arith, pow_pos, pow_mono, pow-add}
use native.Mathlib.Nat.{mul-mul-mul_comm, pow-succ'}
use lib.Count.{count_leading_zeros, leading_top}
use lib.Arith.{digits_div, digits_mod}
use Rattle.root.specs.Root.{field, magnitude}
use Rattle.root.specs.Whole.{Rounds, Lifted}
use Rattle.root.proofs.Patterns.{Scaled, Nearest}
use Rattle.root.proofs.Squares.{square_le, once-or-twice}

mag-fields : (x t : ℕ) → t < 2 ^ 23 → magnitude (x * 2 ^ 23 + t) ≡ field x t
unfolding magnitude
mag-fields x t h = ap (λ (a : ℕ). field a ((x * 2 ^ 23 + t) % 2 ^ 23)) (digits_div x h) ∙ ap (field x) (digits_mod x h)

field-suc : (x t : ℕ) → field (suc x) t ≡ (2 ^ 23 + t) * 2 ^ x
unfolding field
field-suc x t = refl

-- the magnitude of the bits with exponent field j + 1 and significand q
pub mag-at : (j q : ℕ) → 0x800000 ≤ q → q < 0x1000000 → magnitude (0x800000 * j + q) ≡ q * 2 ^ j
mag-at j q lo hi =
    let e : 0x800000 * j + q ≡ suc j * 2 ^ 23 + (q - 0x800000) = omega arith in
    let f : 2 ^ 23 + (q - 0x800000) ≡ q = omega arith in
    ap magnitude e ∙ mag-fields (suc j) (q - 0x800000) (omega arith) ∙ field-suc j (q - 0x800000) ∙ ap (λ (a : ℕ). a * 2 ^ j) f

-- the magnitude of the next bits, even if the exponent field changes
pub mag-next : (j q : ℕ) → 0x800000 ≤ q → q < 0x1000000 → magnitude (0x800000 * j + q + 1) ≡ (q + 1) * 2 ^ j
mag-next j q lo hi = go (eq-or-lt_of_le hi)
  where
    go : (suc q ≡ 0x1000000) ⊎ (suc q < 0x1000000) → magnitude (0x800000 * j + q + 1) ≡ (q + 1) * 2 ^ j
    go (inl e) =
        let a : 0x800000 * j + q + 1 ≡ 0x800000 * suc j + 0x800000 = omega arith in
        let b : 0x800000 * (2 * 2 ^ j) ≡ (q + 1) * 2 ^ j = (sym (mul_assoc 0x800000 2 (2 ^ j)) ∙ ap (λ (x : ℕ). x * 2 ^ j) (omega arith)) in
        ap magnitude a ∙ mag-at (suc j) 0x800000 (omega arith) (omega arith) ∙ ap (λ (x : ℕ). 0x800000 * x) (pow-succ' 2 j) ∙ b
    go (inr l) =
        let a : 0x800000 * j + q + 1 ≡ 0x800000 * j + (q + 1) = omega arith in
        ap magnitude a ∙ mag-at j (q + 1) (omega arith) (omega arith)

field-zero : (t : ℕ) → field zero t ≡ t
unfolding field
field-zero t = refl

-- the next bits have a larger magnitude
step-fields : (x t : ℕ) → t < 2 ^ 23 → field x t < magnitude (x * 2 ^ 23 + t + 1)
step-fields zero t h = go (eq-or-lt_of_le h)
  where
    go : (suc t ≡ 2 ^ 23) ⊎ (suc t < 2 ^ 23) → field zero t < magnitude (zero * 2 ^ 23 + t + 1)
    go (inl e) =
        let a : zero * 2 ^ 23 + t + 1 ≡ 0x800000 * 0 + 0x800000 = omega arith in
        let b : magnitude (zero * 2 ^ 23 + t + 1) ≡ 0x800000 = (ap magnitude a ∙ mag-at 0 0x800000 (omega arith) (omega arith)) in
        omega (arith, b, field-zero t)
    go (inr l) =
        let a : zero * 2 ^ 23 + t + 1 ≡ 0 * 2 ^ 23 + (t + 1) = omega arith in
        let b : magnitude (zero * 2 ^ 23 + t + 1) ≡ t + 1 = (ap magnitude a ∙ mag-fields 0 (t + 1) (omega arith) ∙ field-zero (t + 1)) in
        omega (arith, b, field-zero t)
step-fields (suc x) t h =
    let a : suc x * 2 ^ 23 + t + 1 ≡ 0x800000 * x + (0x800000 + t) + 1 = omega arith in
    let b : magnitude (suc x * 2 ^ 23 + t + 1) ≡ (0x800000 + t + 1) * 2 ^ x = (ap magnitude a ∙ mag-next x (0x800000 + t) (omega arith) (omega arith)) in
    subst (λ (y : ℕ). field (suc x) t < y) (sym b)
    (subst (λ (y : ℕ). y < (0x800000 + t + 1) * 2 ^ x) (sym (field-suc x t)) (mul-lt-mul_of_pos_right (omega arith) (pow_pos x)))

pub mag_is : (p : ℕ) → magnitude p ≡ field (p / 2 ^ 23) (p % 2 ^ 23)
unfolding magnitude
mag_is p = refl

pub mag-step : (p : ℕ) → magnitude p < magnitude (p + 1)
mag-step p =
    let e : p / 2 ^ 23 * 2 ^ 23 + p % 2 ^ 23 + 1 ≡ p + 1 = omega arith in
    subst (λ (y : ℕ). magnitude p < magnitude y) e (subst (λ (y : ℕ). y < magnitude (p / 2 ^ 23 * 2 ^ 23 + p % 2 ^ 23 + 1)) (sym (mag_is p)) (step-fields (p / 2 ^ 23) (p % 2 ^ 23) (omega arith)))

-- ---- squares with a scale P

-- s at most a * P, and a squared below 4 n
under : (s a P n : ℕ) → 0 < P → s ≤ a * P → a * a < 4 * n → s * s < 4 * (n * (P * P))
under s a P n p h l =
    let x : s * s ≤ a * a * (P * P) = subst (λ (y : ℕ). s * s ≤ y) (mul-mul-mul_comm a P a P) (square_le h) in
    let y : a * a * (P * P) < 4 * n * (P * P) = mul-lt-mul_of_pos_right l (pos2 P p) in
    lt_of_le_of_lt x (subst (λ (z : ℕ). a * a * (P * P) < z) (mul_assoc 4 n (P * P)) y)
  where
    pos2 : (P : ℕ) → 0 < P → 0 < P * P
    pos2 zero p = p
    pos2 (suc P) p = omega arith

square-lt : (s t : ℕ) → s < t → s * s < t * t
square-lt s t h = omega (arith, square_le {a = s + 1} {b = t} (omega arith))

under-strict : (s a P n : ℕ) → s < a * P → a * a ≤ 4 * n → s * s < 4 * (n * (P * P))
under-strict s a P n h l =
    let x : s * s < a * a * (P * P) = subst (λ (y : ℕ). s * s < y) (mul-mul-mul_comm a P a P) (square-lt s (a * P) h) in
    let y : a * a * (P * P) ≤ 4 * n * (P * P) = mul-le-mul_right (P * P) l in
    lt_of_lt_of_le x (subst (λ (z : ℕ). a * a * (P * P) ≤ z) (mul_assoc 4 n (P * P)) y)

over : (s a P n : ℕ) → 0 < P * P → s ≡ a * P → 4 * n < a * a → 4 * (n * (P * P)) < s * s
over s a P n p e l =
    let x : a * a * (P * P) ≡ s * s = (sym (mul-mul-mul_comm a P a P) ∙ ap (λ (y : ℕ). y * y) (sym e)) in
    let y : 4 * n * (P * P) < a * a * (P * P) = mul-lt-mul_of_pos_right l p in
    subst (λ (z : ℕ). 4 * (n * (P * P)) < z) x (subst (λ (z : ℕ). z < a * a * (P * P)) (mul_assoc 4 n (P * P)) y)

-- ---- from whole roots to bits

bit : (h : ℕ) → h < 2 → 2 ^ h ≡ 1 + h
bit zero l = refl
bit (suc zero) l = refl
bit (suc (suc h)) l = absurd (omega arith)

scale : (m k : ℕ) → m * 2 ^ (k + 23) ≡ m * 0x800000 * (1 + k % 2) * (2 ^ (k / 2) * 2 ^ (k / 2))
scale m k =
    let e : k + 23 ≡ 23 + (k % 2 + (k / 2 + k / 2)) = omega arith in
    ap (λ (x : ℕ). m * 2 ^ x) e
    ∙ ap (λ (x : ℕ). m * x) (pow-add 2 23 (k % 2 + (k / 2 + k / 2)) ∙ ap (λ (x : ℕ). 0x800000 * x) (pow-add 2 (k % 2) (k / 2 + k / 2) ∙ ap (λ (x : ℕ). x * 2 ^ (k / 2 + k / 2)) (bit (k % 2) (omega arith)) ∙ ap (λ (x : ℕ). (1 + k % 2) * x) (pow-add 2 (k / 2) (k / 2))))
    ∙ sym (mul_assoc m 0x800000 ((1 + k % 2) * (2 ^ (k / 2) * 2 ^ (k / 2))))
    ∙ sym (mul_assoc (m * 0x800000) (1 + k % 2) (2 ^ (k / 2) * 2 ^ (k / 2)))

-- the midpoint below: the bits before have significand q - 1, or belong to the exponent below
low-side : (j n q : ℕ) → Rounds n q → 0x800000 ≤ q → q < 0x1000000 → 0x400000000000 ≤ n
    → (magnitude (0x800000 * j + q - 1) + magnitude (0x800000 * j + q)) * (magnitude (0x800000 * j + q - 1) + magnitude (0x800000 * j + q)) < 4 * (n * (2 ^ j * 2 ^ j))
low-side j n q h lo hi big = go (eq-or-lt_of_le lo)
  where
    s : ℕ
    s = magnitude (0x800000 * j + q - 1) + magnitude (0x800000 * j + q)

    before : (r : ℕ) → 0 < r → magnitude (r - 1) < magnitude r
    before r p = let e : r - 1 + 1 ≡ r = omega arith in subst (λ (y : ℕ). magnitude (r - 1) < magnitude y) e (mag-step (r - 1))

    less : (p n : ℕ) → Rounds n (p + 1) → (2 * p + 1) * (2 * p + 1) < 4 * n
    less p n h = omega (arith, h.low)

    go : (0x800000 ≡ q) ⊎ (0x800000 < q) → s * s < 4 * (n * (2 ^ j * 2 ^ j))
    go (inl e) =
        let a : s < 2 * q * 2 ^ j = omega (arith, before (0x800000 * j + q) (omega arith), mag-at j q lo hi) in
        under-strict s (2 * q) (2 ^ j) n a (omega (arith, ap (λ (x : ℕ). x * x) e))
    go (inr l) =
        let e : 0x800000 * j + q - 1 ≡ 0x800000 * j + (q - 1) = omega arith in
        let f : q - 1 + 1 ≡ q = omega arith in
        let a : magnitude (0x800000 * j + q - 1) ≡ (q - 1) * 2 ^ j = (ap magnitude e ∙ mag-at j (q - 1) (omega arith) (omega arith)) in
        let g : q * 2 ^ j ≡ (q - 1 + 1) * 2 ^ j = ap (λ (x : ℕ). x * 2 ^ j) (sym f) in
        let b : s ≤ (2 * (q - 1) + 1) * 2 ^ j = omega (arith, a, mag-at j q lo hi, g) in
        under s (2 * (q - 1) + 1) (2 ^ j) n (pow_pos j) b (less (q - 1) n (subst (Rounds n) (sym f) h))

high-side : (j n q : ℕ) → Rounds n q → 0x800000 ≤ q → q < 0x1000000
    → 4 * (n * (2 ^ j * 2 ^ j)) < (magnitude (0x800000 * j + q) + magnitude (0x800000 * j + q + 1)) * (magnitude (0x800000 * j + q) + magnitude (0x800000 * j + q + 1))
high-side j n q h lo hi =
    over (magnitude (0x800000 * j + q) + magnitude (0x800000 * j + q + 1)) (2 * q + 1) (2 ^ j) n
    (subst (λ (x : ℕ). 0 < x) (pow-add 2 j j) (pow_pos (j + j)))
    (omega (arith, mag-at j q lo hi, mag-next j q lo hi))
    h.high

pub nearest : (m k r W : ℕ) → W ≡ m * 2 ^ (k + 23) → 0x800000 ≤ m → m < 0x1000000 → k < 380 → Scaled m k r
    → ((magnitude (r - 1) + magnitude r) * (magnitude (r - 1) + magnitude r) < 4 * W) × (4 * W < (magnitude r + magnitude (r + 1)) * (magnitude r + magnitude (r + 1))) × (0 < r) × (r < 0x7F800000)
nearest m k r W v lo hi kl z =
    let n = m * 0x800000 * (1 + k % 2) in
    let w : n * (2 ^ (k / 2) * 2 ^ (k / 2)) ≡ W = sym (v ∙ scale m k) in
    let big = once-or-twice (m * 0x800000) (k % 2) (omega arith) in
    subst (λ (x : ℕ). ((magnitude (x - 1) + magnitude x) * (magnitude (x - 1) + magnitude x) < 4 * W) × (4 * W < (magnitude x + magnitude (x + 1)) * (magnitude x + magnitude (x + 1))) × (0 < x) × (x < 0x7F800000)) (sym z.sum) (
      subst (λ (x : ℕ). (magnitude (0x800000 * (k / 2) + z.q - 1) + magnitude (0x800000 * (k / 2) + z.q)) * (magnitude (0x800000 * (k / 2) + z.q - 1) + magnitude (0x800000 * (k / 2) + z.q)) < 4 * x) w (low-side (k / 2) n z.q z.rounds z.from z.under (omega arith)),
      subst (λ (x : ℕ). 4 * x < (magnitude (0x800000 * (k / 2) + z.q) + magnitude (0x800000 * (k / 2) + z.q + 1)) * (magnitude (0x800000 * (k / 2) + z.q) + magnitude (0x800000 * (k / 2) + z.q + 1))) w (high-side (k / 2) n z.q z.rounds z.from z.under),
      omega (arith, z.from),
      omega (arith, z.under),
    )

-- ---- the number that bits are scaled to

-- a subnormal, shifted until its highest bit is bit 23
pub shifted : (b : ℕ) → 0 < b → b < 0x800000 → (9 ≤ count_leading_zeros 32 b) × (count_leading_zeros 32 b ≤ 31) × (0x800000 ≤ b * 2 ^ (count_leading_zeros 32 b - 8)) × (b * 2 ^ (count_leading_zeros 32 b - 8) < 0x1000000)
shifted b p h =
    let t = leading_top 32 b p (omega arith) in
    let j : ℕ = t.0 in
    let z : ℕ = count_leading_zeros 32 b - 8 in
    let e : count_leading_zeros 32 b + suc j ≡ 32 = t.1 in
    let j-lt : j < 23 = lt_of_not-le (λ g. absurd (omega (arith, pow_mono g, t.2))) in
    let s : j + z ≡ 23 = omega arith in
    let lo : 2 ^ j * 2 ^ z ≡ 0x800000 = (sym (pow-add 2 j z) ∙ ap (λ (x : ℕ). 2 ^ x) s) in
    let s' : suc j + z ≡ 24 = omega arith in
    let hi : 2 ^ suc j * 2 ^ z ≡ 0x1000000 = (sym (pow-add 2 (suc j) z) ∙ ap (λ (x : ℕ). 2 ^ x) s') in (
      omega arith,
      omega arith,
      subst (λ (x : ℕ). x ≤ b * 2 ^ z) lo (mul-le-mul_right (2 ^ z) t.2),
      subst (λ (x : ℕ). b * 2 ^ z < x) hi (mul-lt-mul_of_pos_right t.3 (pow_pos z)),
    )

-- the scale of a subnormal
pub small-scale : (b z : ℕ) → b < 0x800000 → z ≤ 23 → magnitude b * 2 ^ 149 ≡ b * 2 ^ z * 2 ^ (126 - z + 23)
small-scale b z h l =
    let a : magnitude b ≡ b = (ap magnitude (zero_is b) ∙ mag-fields 0 b h ∙ field-zero b) in
    let e : 149 ≡ z + (126 - z + 23) = omega arith in
    ap (λ (x : ℕ). x * 2 ^ 149) a ∙ ap (λ (x : ℕ). b * 2 ^ x) e ∙ ap (λ (x : ℕ). b * x) (pow-add 2 z (126 - z + 23)) ∙ sym (mul_assoc b (2 ^ z) (2 ^ (126 - z + 23)))
  where
    zero_is : (b : ℕ) → b ≡ 0 * 2 ^ 23 + b
    zero_is b = omega arith

-- the scale of any other number
pub normal-scale : (b : ℕ) → 0x800000 ≤ b → magnitude b * 2 ^ 149 ≡ (b % 0x800000 + 0x800000) * 2 ^ (b / 0x800000 + 125 + 23)
normal-scale b h =
    let x : ℕ = b / 0x800000 - 1 in
    let q : ℕ = b % 0x800000 + 0x800000 in
    let e : b ≡ 0x800000 * x + q = omega arith in
    let f : b / 0x800000 + 125 + 23 ≡ x + 149 = omega arith in
    ap (λ (y : ℕ). y * 2 ^ 149) (ap magnitude e ∙ mag-at x q (omega arith) (omega arith))
    ∙ mul_assoc q (2 ^ x) (2 ^ 149)
    ∙ ap (λ (y : ℕ). q * y) (sym (pow-add 2 x 149))
    ∙ ap (λ (y : ℕ). q * 2 ^ y) (sym f)

pub nearest-of : (b m k r : ℕ) → magnitude b * 2 ^ 149 ≡ m * 2 ^ (k + 23) → 0x800000 ≤ m → m < 0x1000000 → k < 380 → Scaled m k r → Nearest b r
nearest-of b m k r e lo hi kl z =
    let t = nearest m k r (magnitude b * 2 ^ 149) e lo hi kl z in
    record { low = t.0; high = t.1; some = t.2; finite = t.3 }

-- ---- lifting

pub lifted-small : (b z : ℕ) → z ≡ count_leading_zeros 32 b - 8 → 0 < b → b < 0x800000 → Lifted b (b * 2 ^ z % 2 ^ 32 + (125 - z) * 0x800000)
lifted-small b z e p h =
    let s = shifted b p h in
    let g : b * 2 ^ z ≡ b * 2 ^ (count_leading_zeros 32 b - 8) = ap (λ (x : ℕ). b * 2 ^ x) e in
    let w : ℕ = b * 2 ^ z % 2 ^ 32 + (125 - z) * 0x800000 in
    let m : w % 0x800000 + 0x800000 ≡ b * 2 ^ z = omega arith in
    let k : w / 0x800000 ≡ 126 - z = omega arith in
    record {
      value = small-scale b z h (omega arith) ∙ ap (λ (x : ℕ). x * 2 ^ (126 - z + 23)) (sym m) ∙ ap (λ (x : ℕ). (w % 0x800000 + 0x800000) * 2 ^ (x + 23)) (sym k);
      under = omega arith;
    }

pub lifted-normal : (b : ℕ) → 0x800000 ≤ b → b < 0x7F800000 → Lifted b (b + 0x3E800000)
lifted-normal b lo hi =
    let m : (b + 0x3E800000) % 0x800000 + 0x800000 ≡ b % 0x800000 + 0x800000 = omega arith in
    let k : (b + 0x3E800000) / 0x800000 + 23 ≡ b / 0x800000 + 125 + 23 = omega arith in
    record {
      value = normal-scale b lo ∙ ap (λ (x : ℕ). x * 2 ^ (b / 0x800000 + 125 + 23)) (sym m) ∙ ap (λ (x : ℕ). ((b + 0x3E800000) % 0x800000 + 0x800000) * 2 ^ x) (sym k);
      under = omega arith;
    }
