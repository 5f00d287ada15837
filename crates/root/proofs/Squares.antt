-- Squares of whole numbers, and a bound on an OR. Assumes nothing.
use Rattle.std.proofs.Common.{◌≡◌, ℕ, zero, suc, ◌+◌, ◌-◌, ◌*◌, ◌%◌, ◌<◌, ◌≤◌, subst, mul-le-mul, mul-le-mul_left, lt_of_not-le, not-le_of_lt, arith}
use lib.Bits.{bit_or, or_add_and, and_le_l, and_le_r}
use Rattle.root.specs.Whole.{Rounds, Digits}

pub square_le : {a b : ℕ} → a ≤ b → a * a ≤ b * b
square_le h = mul-le-mul h h

-- if an OR is below n, so are both its operands
pub or-below : {a b n : ℕ} → bit_or a b < n → (a < n) × (b < n)
or-below {a} {b} h =
    let o = or_add_and a b in
    let l = and_le_l a b in
    let r = and_le_r a b in
    (omega arith, omega arith)

-- if q * (q + 1) is below c * (c + 1), then q is below c
pub below : (q c : ℕ) → q * q + q < c * c + c → q < c
below q c h = lt_of_not-le (λ g. not-le_of_lt h (omega (arith, square_le g)))

-- a step down from a q that is still too large
step : (n p : ℕ) → n + (p + 1) ≤ (p + 1) * (p + 1) → n ≤ p * p + p
step n p h = omega arith

positive : (n q : ℕ) → 0 < n → n + q ≤ q * q → 1 ≤ q
positive n zero p h = absurd (omega arith)
positive n (suc q) p h = omega arith

pub down : (n q : ℕ) → 0 < n → n + q ≤ q * q → (1 ≤ q) × (n ≤ (q - 1) * (q - 1) + (q - 1))
down n q p h =
    let one : 1 ≤ q = positive n q p h in
    let e : q ≡ q - 1 + 1 = omega arith in
    (one, step n (q - 1) (subst (λ (x : ℕ). n + x ≤ x * x) e h))

-- w, or twice w
pub once-or-twice : (w h : ℕ) → h < 2 → (w ≤ w * (1 + h)) × (w * (1 + h) ≤ 2 * w)
once-or-twice w zero l = (omega arith, omega arith)
once-or-twice w (suc zero) l = (omega arith, omega arith)
once-or-twice w (suc (suc h)) l = absurd (omega arith)

pub doubled : (m h : ℕ) → h < 2 → m * (0x800000 + 0x800000 * h) ≡ m * 0x800000 * (1 + h)
doubled m zero l = omega arith
doubled m (suc zero) l = omega arith
doubled m (suc (suc h)) l = absurd (omega arith)

-- the nearest root of a number of 47 or 48 bits, the lower 23 of them zero, has 24 bits
pub digits : (n q : ℕ) → Rounds n q → 0x400000000000 ≤ n → n ≤ 0xFFFFFF000000 → (0x800000 ≤ q) × (q < 0x1000000)
digits n q h lo hi = (
  lt_of_not-le (λ g. absurd (omega (arith, square_le {a = q} {b = 0x7FFFFF} (omega arith), h.high))),
  lt_of_not-le (λ g. absurd (omega (arith, mul-le-mul_left q g, h.low))),
)

-- the number under the root of a significand fits, and is large enough for a root of 24 bits
pub under : (m k : ℕ) → 0x800000 ≤ m → m < 0x1000000 → (0x400000000000 ≤ m * (0x800000 + 0x800000 * (k % 2))) × (m * (0x800000 + 0x800000 * (k % 2)) ≤ 0xFFFFFF000000)
under m k lo hi =
    let e = doubled m (k % 2) (omega arith) in
    let s = once-or-twice (m * 0x800000) (k % 2) (omega arith) in
    (omega arith, omega arith)

-- its nearest root has 24 bits
pub rounded : (m k q : ℕ) → 0x800000 ≤ m → m < 0x1000000 → Rounds (m * (0x800000 + 0x800000 * (k % 2))) q → Digits m k q
rounded m k q lo hi r =
    let u = under m k lo hi in
    let d = digits (m * (0x800000 + 0x800000 * (k % 2))) q r u.0 u.1 in
    record { from = d.0; under = d.1; rounds = subst (λ (n : ℕ). Rounds n q) (doubled m (k % 2) (omega arith)) r }
