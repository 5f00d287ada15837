-- Every positive finite number has a nearest square root, and `root_pattern` gives its bits. Assumes nothing.
use Rattle.std.proofs.Common.{◌≡◌, ℕ, zero, suc, ◌+◌, ◌-◌, ◌*◌, ◌/◌, ◌%◌, ◌^◌, ◌<◌, ◌≤◌, refl, subst, lt_of_not-le, arith}
use native.Mathlib.Decide.{dec_le}
use lib.Count.{count_leading_zeros}
use Rattle.root.specs.Root.{root_pattern}
use Rattle.root.specs.Whole.{Rounds}
use Rattle.root.proofs.Patterns.{Scaled, Nearest}
use Rattle.root.proofs.Squares.{once-or-twice, digits}
use Rattle.root.proofs.Magnitude.{shifted, small-scale, normal-scale, nearest-of}
use Rattle.root.proofs.Unique.{is-root}

-- by induction on n: the nearest root of n + 1 is that of n, or one more
whole-root : (n : ℕ) → (q : ℕ) × Rounds (n + 1) q
whole-root zero = (1, record { low = omega arith; high = omega arith })
whole-root (suc n) = step n (whole-root n)
  where
    up : (n q : ℕ) → Rounds (n + 1) q → (q * q + q < suc n + 1) → Rounds (suc n + 1) (q + 1)
    up n q r h = record { low = omega (arith, r.low, r.high); high = omega (arith, r.low, r.high) }

    stay : (n q : ℕ) → Rounds (n + 1) q → (suc n + 1 ≤ q * q + q) → Rounds (suc n + 1) q
    stay n q r h = record { low = omega (arith, r.low, r.high); high = omega (arith, r.low, r.high) }

    step : (n : ℕ) → (q : ℕ) × Rounds (n + 1) q → (q : ℕ) × Rounds (suc n + 1) q
    step n z = elim (dec_le (suc n + 1) (z.0 * z.0 + z.0)) [
      | yes g ↦ (z.0, stay n z.0 z.1 g)
      | no f ↦ (z.0 + 1, up n z.0 z.1 (lt_of_not-le f))
    ]

scaled : (m k : ℕ) → 0x800000 ≤ m → m < 0x1000000 → (r : ℕ) × Scaled m k r
scaled m k lo hi =
    let n : ℕ = m * 0x800000 * (1 + k % 2) in
    let s = once-or-twice (m * 0x800000) (k % 2) (omega arith) in
    let e : n - 1 + 1 ≡ n = omega arith in
    let w = whole-root (n - 1) in
    let r : Rounds n w.0 = subst (λ (x : ℕ). Rounds x w.0) e w.1 in
    let d = digits n w.0 r (omega arith) (omega arith) in
    (0x800000 * (k / 2) + w.0, record { q = w.0; sum = refl; from = d.0; under = d.1; rounds = r })

exists : (b : ℕ) → 0 < b → b < 0x7F800000 → (r : ℕ) × Nearest b r
exists b p h = elim (dec_le 0x800000 b) [
  | yes g ↦
      let z = scaled (b % 0x800000 + 0x800000) (b / 0x800000 + 125) (omega arith) (omega arith) in
      (z.0, nearest-of b (b % 0x800000 + 0x800000) (b / 0x800000 + 125) z.0 (normal-scale b g) (omega arith) (omega arith) (omega arith) z.1)
  | no f ↦
      let g : b < 0x800000 = lt_of_not-le f in
      let s = shifted b p g in
      let z = scaled (b * 2 ^ (count_leading_zeros 32 b - 8)) (126 - (count_leading_zeros 32 b - 8)) s.2 s.3 in
      (z.0, nearest-of b (b * 2 ^ (count_leading_zeros 32 b - 8)) (126 - (count_leading_zeros 32 b - 8)) z.0 (small-scale b (count_leading_zeros 32 b - 8) g (omega arith)) s.2 s.3 (omega arith) z.1)
]

pub root-nearest : (b : ℕ) → 0 < b → b < 0x7F800000 → Nearest b (root_pattern b)
root-nearest b p h = let z = exists b p h in subst (Nearest b) (is-root b z.0 z.1) z.1
