-- The growths 1 + K × (T next - T own) of a card's ranges. Each is finite and their product is below 2 ^ 127, so no coefficient above the basic range
-- is infinite. Those of ranges 0 to 3 are not zero: their corners are a multiple of 5 apart, and K is a fraction over a power of two. Assumes nothing.
use Prim.Native.Nat.{ℕ, zero, suc, ◌+◌, ◌-◌, ◌*◌, ◌%◌, ◌^◌, ◌<◌, ◌≤◌}
use mathlib.Core.Path.{◌≡◌, refl, sym, ap, ◌∙◌, subst}
use mathlib.Core.Logic.{◌⊎◌, inl, inr}
use mathlib.Core.Bool.{Bool, true, false, cond}
use native.Mathlib.Nat.{mul_assoc, mul-le-mul, mul-mod_left, eq-or-lt_of_le}
use native.Mathlib.Omega.{arith}
use lib.Dec.{ltb}
use lib.IntN.{ℤ, pos, negsuc, ◌-ℤ◌}
use lib.Pow.{pow_pos}
use lib.Signed.{mag}
use lib.Ieee.{Float, is_nan, of_bits}
use borrow.Author.Tests.{ltb-false}
use Rattle.lists.specs.Pick.{pick}
use Rattle.lists.specs.Last.{last_below}
use Rattle.floats.specs.Floats.{◌⊕◌, ◌⊗◌, real, over, is_zero}
use Rattle.floats.specs.Constants.{one}
use Rattle.floats.proofs.Bound.{Within, within-number, within_more, Some, some-not-zero, not-zero-some, quotient-number, product-within}
use Rattle.floats.proofs.Ratio.{large, Ratio, over-ratio, times-ratio, one-within, one-some, no-five}
use Rattle.util.specs.Fields.{signed}
use Rattle.util.proofs.Width.{stands}
use Rattle.hamming.specs.Word.{data_values}
use Rattle.map.specs.declared.Field.TheVariants.{Corner}
use Rattle.map.specs.Map.{word_of}
use Rattle.ranges.specs.Coefficients as shared
use Rattle.ranges.proofs.Zero.{no_zero}
use Rattle.calibration.specs.Calibration.{k_s_to, ranges_of}
use Rattle.calibration.specs.Coefficients.{range_count, growth, above, below, coefficient_at, zero_factor}

-- ---- K

-- a signed field of 11 bits is at most 1024 in magnitude
field-large : (n : ℕ) → large (signed 11 n) ≤ 1024
field-large n = by (signed 11 n) ((stands 11 (omega arith)).range n)
  where
    by : (z : ℤ) → mag z < 1024 → large z ≤ 1024
    by (pos k) h = omega arith
    by (negsuc k) h = omega arith

field-ratio : (n e : ℕ) → Ratio (over (signed 11 n) e) 1024
field-ratio n e = over-ratio (signed 11 n) e 1024 (field-large n) (omega arith)

-- ---- 1 + K × (T next - T own), for any K and any corners at most t apart

module _ (x : Float) (k : Ratio x 1024) where
  grown : (z : ℤ) (t q : ℕ) → large z ≤ t → t ≤ 2047 → 1024 * t + 1 ≤ q → Within (one ⊕ x ⊗ real z) q
  grown z t q h l f =
      let b : k.digits * large z ≤ 1024 * t = mul-le-mul k.few h in
      within_more (one ⊕ x ⊗ real z) (k.digits * large z + 1) q (omega arith)
      (one-within (x ⊗ real z) _ (k.digits * large z) k.power (times-ratio k z (omega arith) (omega arith)) (omega arith))

  -- 1 + K × distance is not zero if the distance is a multiple of 5
  grown-some : (five : ℕ) → five ≤ 16 → Some (one ⊕ x ⊗ real (pos (five * 5)))
  grown-some five l =
      let b : k.digits * (five * 5) ≤ 1024 * 80 = mul-le-mul k.few (let z : five * 5 ≤ 80 = omega arith in z) in
      one-some (x ⊗ real (pos (five * 5))) _ (k.digits * (five * 5)) k.power (times-ratio k (pos (five * 5)) (omega arith) (omega arith)) k.low
      (λ q. no-five k.power (ap (λ (n : ℕ). n % 5) (sym q ∙ sym (mul_assoc k.digits five 5)) ∙ mul-mod_left (k.digits * five) 5))

-- the corners of a card are at most 2047 apart
apart : (a b : ℕ) → a ≤ 2047 → b ≤ 2047 → large (pos a -ℤ pos b) ≤ 2047
apart a zero h l = omega arith
apart a (suc b) h l = by (ltb a (suc b))
  where
    by : (c : Bool) → large (cond c (negsuc (suc b - suc a)) (pos (a - suc b))) ≤ 2047
    by true = omega arith
    by false = omega arith

-- ---- a card's growths

-- the exponent of a power of two that bounds the product of the growths below range r
abbrev top : ℕ → ℕ
top zero = 0
top (suc zero) = 15
top (suc (suc zero)) = 30
top (suc (suc (suc zero))) = 47
top (suc (suc (suc (suc zero)))) = 63
top (suc (suc (suc (suc (suc zero))))) = 84
top (suc (suc (suc (suc (suc (suc zero)))))) = 105
top (suc (suc (suc (suc (suc (suc (suc r))))))) = 126

rises : (r : ℕ) → r < 7 → (top r + (top (suc r) - top r) ≡ top (suc r)) × (top (suc r) < 128)
rises zero h = (refl, omega arith)
rises (suc zero) h = (refl, omega arith)
rises (suc (suc zero)) h = (refl, omega arith)
rises (suc (suc (suc zero))) h = (refl, omega arith)
rises (suc (suc (suc (suc zero)))) h = (refl, omega arith)
rises (suc (suc (suc (suc (suc zero))))) h = (refl, omega arith)
rises (suc (suc (suc (suc (suc (suc zero)))))) h = (refl, omega arith)
rises (suc (suc (suc (suc (suc (suc (suc r))))))) h = absurd (let q : ⊥ = omega arith in q)

module _ (w : ℕ → ℕ) where
  k-ratio : (r : ℕ) → Ratio (k_s_to w r) 1024
  k-ratio r = field-ratio _ _

  -- the growths of ranges 0 to 3 are not zero
  growth-some : (r : ℕ) → r < 4 → Some (growth (ranges_of w) r)
  unfolding shared.growth ranges_of
  growth-some zero h = grown-some (k_s_to w 0) (k-ratio 0) 4 (omega arith)
  growth-some (suc zero) h = grown-some (k_s_to w 1) (k-ratio 1) 4 (omega arith)
  growth-some (suc (suc zero)) h = grown-some (k_s_to w 2) (k-ratio 2) 16 (omega arith)
  growth-some (suc (suc (suc zero))) h = grown-some (k_s_to w 3) (k-ratio 3) 8 (omega arith)
  growth-some (suc (suc (suc (suc r)))) h = absurd (let q : ⊥ = omega arith in q)

  module _ (small : (k : ℕ) → w k < data_values) where
    abbrev at-corner : ℕ → ℕ
    at-corner k = w (word_of Corner k)

    near : (k : ℕ) → at-corner k ≤ 2047
    near k = let s = small (word_of Corner k) in omega arith

    between : (x : Float) (k : Ratio x 1024) (a b : ℕ) → a ≤ 2047 → b ≤ 2047 → Within (one ⊕ x ⊗ real (pos a -ℤ pos b)) (2 ^ 21)
    between x k a b h l =
        grown x k (pos a -ℤ pos b) 2047 (2 ^ 21) (apart a b h l) (omega arith) (omega arith)

    growth-within : (r : ℕ) → r < 7 → Within (growth (ranges_of w) r) (2 ^ (top (suc r) - top r))
    unfolding shared.growth ranges_of
    growth-within zero h = grown (k_s_to w 0) (k-ratio 0) (pos 20) 20 (2 ^ 15) (omega arith) (omega arith) (omega arith)
    growth-within (suc zero) h = grown (k_s_to w 1) (k-ratio 1) (pos 20) 20 (2 ^ 15) (omega arith) (omega arith) (omega arith)
    growth-within (suc (suc zero)) h = grown (k_s_to w 2) (k-ratio 2) (pos 80) 80 (2 ^ 17) (omega arith) (omega arith) (omega arith)
    growth-within (suc (suc (suc zero))) h = grown (k_s_to w 3) (k-ratio 3) (pos 40) 40 (2 ^ 16) (omega arith) (omega arith) (omega arith)
    growth-within (suc (suc (suc (suc zero)))) h = between (k_s_to w 4) (k-ratio 4) (at-corner 0) 120 (near 0) (omega arith)
    growth-within (suc (suc (suc (suc (suc zero))))) h = between (k_s_to w 5) (k-ratio 5) (at-corner 1) (at-corner 0) (near 1) (near 0)
    growth-within (suc (suc (suc (suc (suc (suc zero)))))) h = between (k_s_to w 6) (k-ratio 6) (at-corner 2) (at-corner 1) (near 2) (near 1)
    growth-within (suc (suc (suc (suc (suc (suc (suc r))))))) h = absurd (let q : ⊥ = omega arith in q)

    -- ---- the coefficients

    -- coefficients from the basic range upwards are finite
    above_within : (b n : ℕ) → b + n ≤ 7 → Within (above (ranges_of w) b n) (2 ^ top (b + n))
    unfolding shared.above of_bits
    above_within b zero h = within_more one 1 (2 ^ top (b + 0)) (pow_pos (top (b + 0))) (omega arith)
    above_within b (suc n) h =
        let u = rises (b + n) (omega arith) in
        let e : suc (b + n) ≡ b + suc n = omega arith in
        subst (λ (t : ℕ). Within (above (ranges_of w) b n ⊗ growth (ranges_of w) (b + n)) (2 ^ t)) (u.0 ∙ ap top e)
        (product-within (above (ranges_of w) b n) (growth (ranges_of w) (b + n)) (top (b + n)) (top (suc (b + n)) - top (b + n)) (omega arith)
        (above_within b n (omega arith)) (growth-within (b + n) (omega arith)))

    -- coefficients below the basic range are not NaN if no divisor is zero
    below-number : (b n : ℕ) → n ≤ b → b ≤ 7 → ((r : ℕ) → r < b → is_zero (growth (ranges_of w) r) ≡ false) → is_nan (below (ranges_of w) b n) ≡ false
    unfolding shared.below of_bits is_nan
    below-number b zero h l f = refl
    below-number b (suc n) h l f =
        let r : ℕ = b - suc n in
        let v = growth-within r (omega arith) in
        quotient-number (below (ranges_of w) b n) (growth (ranges_of w) r) (2 ^ (top (suc r) - top r)) (below-number b n (omega arith) l f) v
        (not-zero-some (growth (ranges_of w) r) (2 ^ (top (suc r) - top r)) v (f r (omega arith)))

    pub coefficient-number : (b r : ℕ) → b ≤ 7 → r ≤ 7 → ((r : ℕ) → r < b → is_zero (growth (ranges_of w) r) ≡ false) → is_nan (coefficient_at (ranges_of w) b r) ≡ false
    unfolding shared.coefficient_at
    coefficient-number b r h l f = by (ltb r b) refl
      where
        by : (c : Bool) → ltb r b ≡ c → is_nan (pick c (below (ranges_of w) b (b - r)) (above (ranges_of w) b (r - b))) ≡ false
        by true e = below-number b (b - r) (omega arith) h f
        by false e =
            let k = ltb-false r b e in
            within-number (above (ranges_of w) b (r - b)) (2 ^ top (b + (r - b))) (above_within b (r - b) (omega arith))

-- ---- the zero factor

-- one step: if the search finds nothing, entry n does not pass and nothing is found below it
step : (p : ℕ → Bool) (none n m : ℕ) (b : Bool) → p n ≡ b → n < none → none ≤ pick b n m → (p n ≡ false) × (none ≤ m)
step p none n m true e h l = absurd (let q : ⊥ = omega arith in q)
step p none n m false e h l = (e, l)

one_more : (p : ℕ → Bool) (n r : ℕ) → p n ≡ false → ((k : ℕ) → k < n → p k ≡ false) → (r ≡ n) ⊎ (r < n) → p r ≡ false
one_more p n r e f (inl q) = ap p q ∙ e
one_more p n r e f (inr q) = f r q

pub none_passes : (p : ℕ → Bool) (none n : ℕ) → n ≤ none → none ≤ last_below p none n → (r : ℕ) → r < n → p r ≡ false
unfolding last_below
none_passes p none zero h l r k = absurd (let q : ⊥ = omega arith in q)
none_passes p none (suc n) h l r k =
    let s = step p none n (last_below p none n) (p n) refl (omega arith) l in
    one_more p n r s.0 (none_passes p none n (omega arith) s.1) (eq-or-lt_of_le (let z : r ≤ n = omega arith in z))

-- with a basic range of 4 or less there is no zero divisor
pub no-zero-factor : (w : ℕ → ℕ) (range : ℕ) → range ≤ 4 → zero_factor (ranges_of w) range ≡ range_count
no-zero-factor w range h = no_zero range_count _ _ range (λ r l. some-not-zero (growth (ranges_of w) r) (growth-some w r (omega arith)))
