-- Demand 3: for 2 ^ 32 ≤ x < 2 ^ 36 the temperature is (q - 8950579) / 32768 exactly, with (q - 1)⁴ < x * 2 ^ 60 < (q + 1)⁴, and it grows with x.
-- The fourth root is a multiple of 2 ^ -15 below 2 ^ 9, so the difference is exact. Assumes nothing.
use Rattle.std.proofs.Common.{◌≡◌, ℕ, ◌+◌, ◌-◌, ◌*◌, ◌^◌, ◌<◌, ◌≤◌, Bool, true, false, ◌&&◌, ◌||◌, T, eqb, ltb, sym, refl, ap, ◌∙◌, subst, true≢false, mul-le-mul_right, mul_assoc, mul-pos, lt_of_not-le, mul-one, le_of_mul-le-mul_right, arith, lt→ltb, pow_pos, le-ltb, lt-ltb}
use native.Mathlib.Nat.{pow-succ'}
use native.Mathlib.Decide.{dec_le}
use lib.Dec.{eqb_refl}
use lib.Ieee.{Float, nan, inf, fin, binary32, fits, of_bits, to_bits, up, down, lt, le}
use lib.Ieee.Exact.{HasValue}
use lib.Ieee.Fits.{down_pos}
use lib.Ieee.Bits.{of_bits-to_bits}
use lib.Ieee.Order.{transfer, le_of_values}
use lib.Ieee.Positive.{num, den, positive, own_value, positive_of_value, values_of_le, first_pos, between}
use Rattle.lists.specs.Pick.{pick}
use Rattle.floats.specs.Floats.{power_of_two, ◌⊖◌}
use Rattle.floats.specs.Constants.{freezing}
use Rattle.floats.proofs.Power.{power-value}
use Rattle.floats.proofs.Constants.{freezing-is}
use Rattle.root.specs.Root.{field, magnitude, root_pattern, root, celsius}
use Rattle.root.specs.Demand.{Near4, AsGood}
use Rattle.root.proofs.Patterns.{Nearest, Between}
use Rattle.root.proofs.Magnitude.{mag-at}
use Rattle.root.proofs.Unique.{grows}
use Rattle.root.proofs.Exists.{root-nearest}
use Rattle.root.proofs.Values.{value_of, root-positive}
use Rattle.root.proofs.Bits.{mag-le-back, mag-lt-back, bits-number, lt→le, values-of-lt}
use Rattle.root.proofs.Fourth.{in_between}
use Rattle.root.proofs.Fractions.{refrac}
use Rattle.root.proofs.Kelvin.{difference}
use Rattle.root.proofs.Nearest.{square-is}

-- ---- by bits

-- the fourth root's significand, in units of 2 ^ -15
digits : (b : ℕ) → 0x4F800000 ≤ b → b < 0x51800000 → Between b (root_pattern (root_pattern b))
digits b lo hi =
    let n : Nearest b (root_pattern b) = root-nearest b (omega arith) (omega arith) in
    in_between b (root_pattern b) (root_pattern (root_pattern b)) n (root-nearest (root_pattern b) n.some n.finite) lo hi

-- the temperature from it
degrees : (b : ℕ) (z : Between b (root_pattern (root_pattern b))) → 0x4F800000 ≤ b → b < 0x51800000
    → HasValue (root (of_bits binary32 b) ⊖ freezing) (ltb z.q 8950579) (pick (ltb z.q 8950579) (8950579 - z.q) (z.q - 8950579)) 32768
degrees b z lo hi =
    let r : ℕ = root_pattern (root_pattern b) in
    let m : magnitude r ≡ z.q * 2 ^ 134 = ap magnitude z.sum ∙ mag-at 134 z.q z.from z.under in
    let v : HasValue (of_bits binary32 r) false z.q 32768 =
    refrac (of_bits binary32 r) false (z.q * 2 ^ 134) (2 ^ 149) z.q 32768 (pow_pos 149) (mul_assoc z.q (2 ^ 134) 32768) (subst (λ (a : ℕ). HasValue (of_bits binary32 r) false a (2 ^ 149)) m (value_of r (omega (arith, z.sum, z.under)))) in
    subst (λ (v : Float). HasValue (v ⊖ freezing) (ltb z.q 8950579) (pick (ltb z.q 8950579) (8950579 - z.q) (z.q - 8950579)) 32768) (sym (root-positive b (omega arith) (omega arith)))
    (difference (of_bits binary32 r) freezing z.q 8950579 z.under (omega arith) v freezing-is)

-- (c * c) * (c * c) is c ^ 4
fourth-is : (c : ℕ) → c ^ 4 ≡ c * c * (c * c)
fourth-is c = pow-succ' c 3 ∙ ap (λ (x : ℕ). c * x) (pow-succ' c 2 ∙ ap (λ (x : ℕ). c * x) (square-is c)) ∙ sym (mul_assoc c c (c * c))

near : (b : ℕ) → 0x4F800000 ≤ b → b < 0x51800000 → Near4 (of_bits binary32 b) (root (of_bits binary32 b) ⊖ freezing)
near b lo hi =
    let z = digits b lo hi in
    record {
      q = z.q;
      X = z.X;
      value = refrac (of_bits binary32 b) false (z.X * 2 ^ 89) (2 ^ 149) z.X (2 ^ 60) (pow_pos 149) (mul_assoc z.X (2 ^ 89) (2 ^ 60)) (subst (λ (a : ℕ). HasValue (of_bits binary32 b) false a (2 ^ 149)) z.value (value_of b (omega arith)));
      degrees = degrees b z lo hi;
      low = subst (λ (c : ℕ). c < z.X) (sym (fourth-is (z.q - 1))) z.low;
      high = subst (λ (c : ℕ). z.X < c) (sym (fourth-is (z.q + 1))) z.high;
    }

-- a larger number's root is not smaller
fourth-grows : (a b : ℕ) → 0 < a → a ≤ b → b < 0x7F800000 → root_pattern (root_pattern a) ≤ root_pattern (root_pattern b)
fourth-grows a b p l h =
    let n = root-nearest a p (omega arith) in
    let m = root-nearest b (omega arith) h in
    grows (root_pattern a) (root_pattern b) (root_pattern (root_pattern a)) (root_pattern (root_pattern b)) (grows a b (root_pattern a) (root_pattern b) l n m)
    (root-nearest (root_pattern a) n.some n.finite) (root-nearest (root_pattern b) m.some m.finite)

-- ---- the order of two fractions with signs

of_ge : (a b : ℕ) → b ≤ a → T (ltb b a || (eqb a b && true))
of_ge a b h = elim (dec_le a b) [
  | yes g ↦ subst (λ (z : ℕ). T (ltb z a || (eqb a z && true))) (let e : a ≡ b = omega arith in e) (same (ltb a a) (eqb a a) (eqb_refl a))
  | no f ↦ less (ltb b a) (eqb a b && true) (lt→ltb b a (lt_of_not-le f))
]
  where
    same : (x y : Bool) → T y → T (x || (y && true))
    same true y t = tt
    same false true t = tt
    same false false t = t

    less : (x y : Bool) → T x → T (x || y)
    less true y t = tt
    less false y t = absurd t

-- of two numbers below zero, the larger in size is the smaller
both_below : (x y : Float) (a b c : ℕ) → 0 < c → HasValue x true a c → HasValue y true b c → b ≤ a → T (le x y)
unfolding le lt
both_below nan y a b c C h k l = absurd h
both_below (inf s) y a b c C h k l = absurd h
both_below (fin false m e) y a b c C h k l = absurd (true≢false (sym h.0))
both_below (fin true m e) nan a b c C h k l = absurd k
both_below (fin true m e) (inf t) a b c C h k l = absurd k
both_below (fin true m e) (fin false n d) a b c C h k l = absurd (true≢false (sym k.0))
both_below (fin true m e) (fin true n d) a b c C h k l =
    of_ge (m * up e * down d) (n * up d * down e) (transfer (n * up d) (m * up e) (down d) (down e) b a c c C C k.1 h.1 (scaled l))
  where
    scaled : b ≤ a → b * c ≤ a * c
    scaled g = mul-le-mul_right c g

-- one below zero and one not
across : (x y : Float) (a b c d : ℕ) → 0 < a → 0 < c → HasValue x true a c → HasValue y false b d → T (le x y)
unfolding le lt
across nan y a b c d A C h k = absurd h
across (inf s) y a b c d A C h k = absurd h
across (fin false m e) y a b c d A C h k = absurd (true≢false (sym h.0))
across (fin true m e) nan a b c d A C h k = absurd k
across (fin true m e) (inf t) a b c d A C h k = absurd k
across (fin true m e) (fin true n f) a b c d A C h k = absurd (true≢false k.0)
across (fin true m e) (fin false n f) a b c d A C h k =
    less (ltb 0 (m * up e * down f + n * up f * down e)) _ (lt→ltb 0 (m * up e * down f + n * up f * down e) (some (m * up e * down f) (n * up f * down e) (mul-pos (first_pos (m * up e) c (subst (λ (z : ℕ). 0 < z) (sym h.1) (mul-pos A (down_pos e)))) (down_pos f))))
  where
    some : (x y : ℕ) → 0 < x → 0 < x + y
    some x y h = omega arith

    less : (x y : Bool) → T x → T (x || y)
    less true y t = tt
    less false y t = absurd t

ordered : (x y : Float) (p q : ℕ) → p ≤ q
    → HasValue x (ltb p 8950579) (pick (ltb p 8950579) (8950579 - p) (p - 8950579)) 32768
    → HasValue y (ltb q 8950579) (pick (ltb q 8950579) (8950579 - q) (q - 8950579)) 32768
    → T (le x y)
ordered x y p q l h k = elim (dec_le 8950579 p) [
  | yes f ↦
      le_of_values x y (p - 8950579) 32768 (q - 8950579) 32768 (omega arith) (omega arith)
      (not-less p x f h) (not-less q y (omega arith) k) (omega arith)
  | no f ↦
      let u : p < 8950579 = lt_of_not-le f in
      elim (dec_le 8950579 q) [
        | yes g ↦ across x y (8950579 - p) (q - 8950579) 32768 32768 (omega arith) (omega arith) (less p x u h) (not-less q y g k)
        | no g ↦ both_below x y (8950579 - p) (8950579 - q) 32768 (omega arith) (less p x u h) (less q y (lt_of_not-le g) k) (omega arith)
      ]
]
  where
    less : (p : ℕ) (x : Float) → p < 8950579 → HasValue x (ltb p 8950579) (pick (ltb p 8950579) (8950579 - p) (p - 8950579)) 32768 → HasValue x true (8950579 - p) 32768
    less p x u h = subst (λ (t : Bool). HasValue x t (pick t (8950579 - p) (p - 8950579)) 32768) (lt-ltb p 8950579 u) h

    not-less : (p : ℕ) (x : Float) → 8950579 ≤ p → HasValue x (ltb p 8950579) (pick (ltb p 8950579) (8950579 - p) (p - 8950579)) 32768 → HasValue x false (p - 8950579) 32768
    not-less p x u h = subst (λ (t : Bool). HasValue x t (pick t (8950579 - p) (p - 8950579)) 32768) (le-ltb p 8950579 u) h

-- ---- by numbers

low_end : magnitude 0x4F800000 ≡ 2 ^ 32 * 2 ^ 149
unfolding magnitude field
low_end = refl

high_end : magnitude 0x51800000 ≡ 2 ^ 36 * 2 ^ 149
unfolding magnitude field
high_end = refl

power-above-zero : (e : ℕ) → e < 128 → T (positive (power_of_two e))
power-above-zero e h = positive_of_value (power_of_two e) (2 ^ e) 1 (power-value e h) (pow_pos e)

module _ (x : Float) (held : T (fits binary32 x)) (from : T (le (power_of_two 32) x)) (under : T (lt x (power_of_two 36))) where
  abbrev b : ℕ
  b = to_bits binary32 x

  pub above_zero : T (positive x)
  above_zero = between (power_of_two 32) x (power_of_two 36) (power-above-zero 32 (omega arith)) (power-above-zero 36 (omega arith)) from (lt→le x (power_of_two 36) under)

  number : HasValue x false (magnitude b) (2 ^ 149)
  number = bits-number x (num x) (den x) held (own_value x above_zero)

  bits-from : 0x4F800000 ≤ b
  bits-from =
      mag-le-back 0x4F800000 b (subst (λ (z : ℕ). z ≤ magnitude b) (sym low_end)
      (subst (λ (z : ℕ). 2 ^ 32 * 2 ^ 149 ≤ z) (mul-one (magnitude b)) (values_of_le (power_of_two 32) x (2 ^ 32) 1 (magnitude b) (2 ^ 149) (power-above-zero 32 (omega arith)) above_zero (power-value 32 (omega arith)) number from)))

  bits-under : b < 0x51800000
  bits-under =
      mag-lt-back b 0x51800000 (subst (λ (z : ℕ). magnitude b < z) (sym high_end)
      (subst (λ (z : ℕ). z < 2 ^ 36 * 2 ^ 149) (mul-one (magnitude b)) (values-of-lt x (power_of_two 36) (magnitude b) (2 ^ 149) (2 ^ 36) 1 above_zero (power-above-zero 36 (omega arith)) (pow_pos 149) (pow_pos 0) number (power-value 36 (omega arith)) under)))

  as_bits : of_bits binary32 b ≡ x
  as_bits = of_bits-to_bits binary32 x held

  -- demand 3
  pub demand : Near4 x (celsius x)
  unfolding celsius
  demand = subst (λ (y : Float). Near4 y (root y ⊖ freezing)) as_bits (near b bits-from bits-under)

apart : {r s p q : ℕ} → r ≡ 0x800000 * 134 + p → s ≡ 0x800000 * 134 + q → r ≤ s → p ≤ q
apart e f l = omega arith

-- the temperature grows with x
pub monotone : (x y : Float) → T (fits binary32 x) → T (fits binary32 y)
    → T (le (power_of_two 32) x) → T (lt x (power_of_two 36)) → T (le (power_of_two 32) y) → T (lt y (power_of_two 36))
    → T (le x y) → T (le (celsius x) (celsius y))
unfolding celsius
monotone x y hx hy fx ux fy uy l =
    let a : ℕ = to_bits binary32 x in
    let b : ℕ = to_bits binary32 y in
    let z = digits a (bits-from x hx fx ux) (bits-under x hx fx ux) in
    let w = digits b (bits-from y hy fy uy) (bits-under y hy fy uy) in
    let m : magnitude a ≤ magnitude b =
    le_of_mul-le-mul_right (values_of_le x y (magnitude a) (2 ^ 149) (magnitude b) (2 ^ 149) (above_zero x hx fx ux) (above_zero y hy fy uy) (number x hx fx ux) (number y hy fy uy) l) (pow_pos 149) in
    let g = fourth-grows a b (some a (bits-from x hx fx ux)) (mag-le-back a b m) (small b (bits-under y hy fy uy)) in
    ordered (root x ⊖ freezing) (root y ⊖ freezing) z.q w.q (apart z.sum w.sum g)
    (subst (λ (v : Float). HasValue (root v ⊖ freezing) (ltb z.q 8950579) (pick (ltb z.q 8950579) (8950579 - z.q) (z.q - 8950579)) 32768) (as_bits x hx fx ux) (degrees a z (bits-from x hx fx ux) (bits-under x hx fx ux)))
    (subst (λ (v : Float). HasValue (root v ⊖ freezing) (ltb w.q 8950579) (pick (ltb w.q 8950579) (8950579 - w.q) (w.q - 8950579)) 32768) (as_bits y hy fy uy) (degrees b w (bits-from y hy fy uy) (bits-under y hy fy uy)))
  where
    some : (a : ℕ) → 0x4F800000 ≤ a → 0 < a
    some a l = omega arith

    small : (b : ℕ) → b < 0x51800000 → b < 0x7F800000
    small b l = omega arith

pub as-good : AsGood
as-good = record {
  near = λ x h. demand x h.is_f32 h.from h.under;
  grows = λ x y h i o. monotone x y h.is_f32 i.is_f32 h.from h.under i.from i.under o;
}
