-- `square_root` is the nearest root, it is the only one, and the fourth root is two of them. Assumes nothing.
use Rattle.std.proofs.Common.{◌≡◌, ℕ, ◌+◌, ◌-◌, ◌*◌, ◌^◌, ◌<◌, ◌≤◌, false, T, sym, ap, ◌∙◌, subst, lt_trans, lt_of_lt_of_le, lt_of_le_of_lt, lt_irrefl, le_antisymm, lt_of_not-le, mul-one, arith, pow_pos}
use native.Mathlib.Nat.{pow-succ', pow-zero}
use native.Mathlib.Decide.{dec_le}
use lib.Ieee.{Float, binary32, fits, of_bits, to_bits}
use lib.Ieee.Exact.{HasValue}
use lib.Ieee.Bits.{of_bits-to_bits, of_bits-fits}
use lib.Ieee.Positive.{num, den, positive, own_value, positive_of_value, value_pos}
use Rattle.root.specs.Root.{magnitude, root_pattern, square_root, root}
use Rattle.root.specs.Nearest.{NearestRoot}
use Rattle.root.proofs.Patterns.{Nearest}
use Rattle.root.proofs.Squares.{square_le}
use Rattle.root.proofs.Fractions.{same_number}
use Rattle.root.proofs.Unique.{mag-mono}
use Rattle.root.proofs.Exists.{root-nearest}
use Rattle.root.proofs.Values.{value_of, mag-pos, square-root-bits, positive-root}
use Rattle.root.proofs.Bits.{mag-lt-back, bits-finite, bits-number, magnitude-is, bits-some, same_float}

pub square-is : (n : ℕ) → n ^ 2 ≡ n * n
square-is n = pow-succ' n 1 ∙ ap (λ (x : ℕ). n * x) (pow-succ' n 0 ∙ ap (λ (x : ℕ). n * x) (pow-zero n) ∙ mul-one n)

-- from bits to numbers
of-bits : (b r : ℕ) → b < 0x7F800000 → Nearest b r → NearestRoot (of_bits binary32 b) (of_bits binary32 r)
of-bits b r f n =
    record {
      X = magnitude b;
      R = magnitude r;
      x_is = value_of b f;
      r_is = value_of r n.finite;
      above = λ y Y fy vy h. up y Y fy vy h;
      below = λ y Y fy vy h. down y Y fy vy h;
    }
  where
    at : (y : Float) (Y : ℕ) → T (fits binary32 y) → HasValue y false Y (2 ^ 149) → magnitude (to_bits binary32 y) ≡ Y
    at y Y fy vy = magnitude-is y Y fy vy

    up : (y : Float) (Y : ℕ) → T (fits binary32 y) → HasValue y false Y (2 ^ 149) → Y < magnitude r → (Y + magnitude r) ^ 2 < 4 * (magnitude b * 2 ^ 149)
    up y Y fy vy h =
        let c : ℕ = to_bits binary32 y in
        let e : magnitude c ≡ Y = at y Y fy vy in
        let l : c < r = mag-lt-back c r (subst (λ (z : ℕ). z < magnitude r) (sym e) h) in
        let g : magnitude c ≤ magnitude (r - 1) = mag-mono {p = c} {r = r - 1} (omega arith) in
        let k : Y + magnitude r ≤ magnitude (r - 1) + magnitude r = omega (arith, e, g) in
        subst (λ (z : ℕ). z < 4 * (magnitude b * 2 ^ 149)) (sym (square-is (Y + magnitude r))) (lt_of_le_of_lt (square_le k) n.low)

    down : (y : Float) (Y : ℕ) → T (fits binary32 y) → HasValue y false Y (2 ^ 149) → magnitude r < Y → 4 * (magnitude b * 2 ^ 149) < (magnitude r + Y) ^ 2
    down y Y fy vy h =
        let c : ℕ = to_bits binary32 y in
        let e : magnitude c ≡ Y = at y Y fy vy in
        let l : r < c = mag-lt-back r c (subst (λ (z : ℕ). magnitude r < z) (sym e) h) in
        let g : magnitude (r + 1) ≤ magnitude c = mag-mono {p = r + 1} {r = c} (omega arith) in
        let k : magnitude r + magnitude (r + 1) ≤ magnitude r + Y = omega (arith, e, g) in
        subst (λ (z : ℕ). 4 * (magnitude b * 2 ^ 149) < z) (sym (square-is (magnitude r + Y))) (lt_of_lt_of_le n.high (square_le k))

module _ (x : Float) (held : T (fits binary32 x)) (above_zero : T (positive x)) where
  abbrev b : ℕ
  b = to_bits binary32 x

  pub finite-bits : b < 0x7F800000
  finite-bits = bits-finite x (num x) (den x) held (own_value x above_zero)

  pub some_bits : 0 < b
  some_bits = bits-some b (value_pos x (magnitude b) (2 ^ 149) above_zero (pow_pos 149) (bits-number x (num x) (den x) held (own_value x above_zero)))

  root-bits : square_root x ≡ of_bits binary32 (root_pattern b)
  root-bits = ap square_root (sym (of_bits-to_bits binary32 x held)) ∙ square-root-bits b finite-bits

  -- `square_root` is the nearest root
  pub nearest : NearestRoot x (square_root x)
  nearest =
      subst (λ (y : Float). NearestRoot y (square_root x)) (of_bits-to_bits binary32 x held)
      (subst (NearestRoot (of_bits binary32 b)) (sym root-bits) (of-bits b (root_pattern b) finite-bits (root-nearest b some_bits finite-bits)))

  pub root-fits : T (fits binary32 (square_root x))
  root-fits = subst (λ (y : Float). T (fits binary32 y)) (sym root-bits) (of_bits-fits binary32 (root_pattern b))

  pub root-above : T (positive (square_root x))
  root-above =
      let n = root-nearest b some_bits finite-bits in
      subst (λ (y : Float). T (positive y)) (sym root-bits) (positive_of_value (of_bits binary32 (root_pattern b)) (magnitude (root_pattern b)) (2 ^ 149) (value_of (root_pattern b) n.finite) (mag-pos (root_pattern b) n.some))

-- the fourth root is the nearest root of the nearest root
pub fourth : (x : Float) → T (fits binary32 x) → T (positive x) → NearestRoot x (square_root x) × NearestRoot (square_root x) (root x)
fourth x held p = (nearest x held p, subst (NearestRoot (square_root x)) (sym (positive-root x p)) (nearest (square_root x) (root-fits x held p) (root-above x held p)))

-- there is only one nearest root
pub unique : (x r s : Float) → T (fits binary32 r) → T (fits binary32 s) → NearestRoot x r → NearestRoot x s → r ≡ s
unique x r s fr fs n m = same_float r s n.R fr fs n.r_is (subst (λ (z : ℕ). HasValue s false z (2 ^ 149)) (sym same) m.r_is)
  where
    bound : n.X ≡ m.X
    bound = same_number x false false n.X m.X (2 ^ 149) n.x_is m.x_is

    moved : (r s : Float) (n : NearestRoot x r) (m : NearestRoot x s) → T (fits binary32 r) → T (fits binary32 s) → n.X ≡ m.X → n.R < m.R → ⊥
    moved r s n m fr fs e l =
        let up : 4 * (n.X * 2 ^ 149) < (n.R + m.R) ^ 2 = n.below s m.R fs m.r_is l in
        let low : (n.R + m.R) ^ 2 < 4 * (m.X * 2 ^ 149) = m.above r n.R fr n.r_is l in
        lt_irrefl (4 * (m.X * 2 ^ 149)) (lt_trans (subst (λ (z : ℕ). 4 * (z * 2 ^ 149) < (n.R + m.R) ^ 2) e up) low)

    same : n.R ≡ m.R
    same = elim (dec_le n.R m.R) [
      | yes g ↦ elim (dec_le m.R n.R) [
        | yes h ↦ le_antisymm g h
        | no f ↦ absurd (moved r s n m fr fs bound (lt_of_not-le f))
      ]
      | no f ↦ absurd (moved s r m n fs fr (sym bound) (lt_of_not-le f))
    ]
