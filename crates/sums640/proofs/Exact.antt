-- No f32 step rounds: whole numbers of up to 23 bits, the sum of two of them, and their quotients by powers of two are exact in f32.
-- Assumes nothing.
use Prim.Native.Nat.{ℕ, suc, ◌+◌, ◌-◌, ◌*◌, ◌/◌, ◌%◌, ◌^◌, ◌<◌, ◌≤◌}
use mathlib.Core.Path.{◌≡◌, refl, sym, ap, ◌∙◌}
use mathlib.Core.Bool.{Bool, true, false, cond}
use native.Mathlib.Nat.{mul_assoc, mul_comm, mul-one, mul-pos, add-mul, mul-lt-mul_of_pos_right, mul-le-mul_right, mod-lt}
use native.Mathlib.Omega.{arith}
use lib.Dec.{ltb, lit<}
use lib.IntN.{ℤ, pos, negsuc, ◌+ℤ◌}
use lib.Signed.{mag}
use lib.Ieee.{Float, nan, inf, fin, binary32, up, down, round, sum, add, of_int}
use lib.Ieee.Exact.{HasValue}
use lib.Ieee.Scale.{round_same}
use lib.Ieee.Fits.{down_pos}
use borrow.Author.Tests.{ltb-true, ltb-false, lt-ltb, le-ltb}
use Rattle.floats.specs.Floats.{real, ◌⊕◌}
use Rattle.floats.proofs.Exact.{over-exact}
use Rattle.floats.proofs.Ratio.{large, below-zero, real-value}
use Rattle.util.proofs.Range.{sum-mag}
use Rattle.mlx90640.proofs.Exact.{whole}
use Rattle.sums640.specs.Sums.{alpha_base_at, alpha_rest_at, k_ta_sum_at, alpha_at, k_ta_at}
use Rattle.sums640.specs.Exact.{Exact}
use Rattle.sums640.proofs.Range.{alpha-base-mag, alpha-rest-mag, k-ta-sum-mag}

-- ---- the float sum of two whole numbers

-- the magnitude over the common denominator c * d, from the value a
over-both : (m u c a : ℕ) (d : ℕ) → m * u * 1 ≡ a * c → m * u * d ≡ a * (c * d)
over-both m u c a d e = ap (λ (x : ℕ). x * d) (sym (mul-one (m * u)) ∙ e) ∙ mul_assoc a c d

module _ (a b c : ℕ) (h : 0 < c) where
  less : ltb (a * c) (b * c) ≡ ltb a b
  less = go (ltb a b) refl
    where
      go : (t : Bool) → ltb a b ≡ t → ltb (a * c) (b * c) ≡ t
      go true e = lt-ltb (a * c) (b * c) (mul-lt-mul_of_pos_right (ltb-true a b e) h)
      go false e = le-ltb (a * c) (b * c) (mul-le-mul_right c (ltb-false a b e))

  -- the sum of two fractions over c is rounded like that of two whole numbers; below it, their difference
  plus : (s : Bool) → round binary32 s (a * c + b * c) c ≡ round binary32 s (a + b) 1
  plus s = round_same binary32 s (a * c + b * c) c (a + b) 1 h (lit< tt) (mul-one (a * c + b * c) ∙ sym (add-mul a b c))

  apart : (s : Bool) → b ≤ a → round binary32 s (a * c - b * c) c ≡ round binary32 s (a - b) 1
  apart s l =
      let g : a * c - b * c ≡ (a - b) * c = let z : a - b + b ≡ a = omega arith in let w = ap (λ (x : ℕ). x * c) (sym z) ∙ add-mul (a - b) b c in omega arith in
      round_same binary32 s (a * c - b * c) c (a - b) 1 h (lit< tt) (mul-one (a * c - b * c) ∙ g)

-- the float sum of ±a and ±b over the denominator c is the same as over 1
same : (s t : Bool) (a b c : ℕ) → 0 < c → sum binary32 s (a * c) t (b * c) c ≡ sum binary32 s a t b 1
unfolding sum
same true true a b c h = plus a b c h true
same false false a b c h = plus a b c h false
same true false a b c h = rw (less a b c h, less b a c h) (go (ltb a b) refl)
  where
    go : (k : Bool) → ltb a b ≡ k → cond k (round binary32 false (b * c - a * c) c) (round binary32 (ltb b a) (a * c - b * c) c) ≡ cond k (round binary32 false (b - a) 1) (round binary32 (ltb b a) (a - b) 1)
    go true e = let l = ltb-true a b e in apart b a c h false (omega arith)
    go false e = apart a b c h (ltb b a) (ltb-false a b e)
same false true a b c h = rw (less a b c h) (go (ltb a b) refl)
  where
    go : (k : Bool) → ltb a b ≡ k → cond k (round binary32 true (b * c - a * c) c) (round binary32 false (a * c - b * c) c) ≡ cond k (round binary32 true (b - a) 1) (round binary32 false (a - b) 1)
    go true e = let l = ltb-true a b e in apart b a c h true (omega arith)
    go false e = apart a b c h false (ltb-false a b e)

sum-at : (x y : Float) (s t : Bool) (a b : ℕ) → HasValue x s a 1 → HasValue y t b 1 → x ⊕ y ≡ sum binary32 s a t b 1
unfolding add
sum-at nan y s t a b p q = absurd p
sum-at (inf u) y s t a b p q = absurd p
sum-at (fin u m e) nan s t a b p q = absurd q
sum-at (fin u m e) (inf v) s t a b p q = absurd q
sum-at (fin u m e) (fin v n d) s t a b p q =
    let c = down e * down d in
    let A : m * up e * down d ≡ a * c = over-both m (up e) (down e) a (down d) p.1 in
    let B : n * up d * down e ≡ b * c = over-both n (up d) (down d) b (down e) q.1 ∙ ap (λ (k : ℕ). b * k) (mul_comm (down d) (down e)) in
    rw (p.0, q.0, A, B) (same s t a b c (mul-pos (down_pos e) (down_pos d)))

-- the sum of b and the negative number -1 - a
mixed : (a b : ℕ) → sum binary32 false b true (suc a) 1 ≡ real (pos b +ℤ negsuc a)
unfolding sum of_int
mixed a b = go (ltb b (suc a)) refl
  where
    go : (k : Bool) → ltb b (suc a) ≡ k → cond k (round binary32 true (suc a - b) 1) (round binary32 false (b - suc a) 1) ≡ of_int binary32 (cond k (negsuc (suc a - suc b)) (pos (b - suc a)))
    go true e = let l = ltb-true b (suc a) e in ap (λ (n : ℕ). round binary32 true n 1) (let z : suc a - b ≡ suc (suc a - suc b) = omega arith in z)
    go false e = refl

turned : (a b : ℕ) → sum binary32 true (suc a) false b 1 ≡ sum binary32 false b true (suc a) 1
unfolding sum
turned a b = go (ltb b (suc a)) (ltb (suc a) b) refl refl
  where
    go : (k l : Bool) → ltb b (suc a) ≡ k → ltb (suc a) b ≡ l → cond l (round binary32 false (b - suc a) 1) (round binary32 k (suc a - b) 1) ≡ cond k (round binary32 true (suc a - b) 1) (round binary32 false (b - suc a) 1)
    go true true e f = let x = ltb-true b (suc a) e in let y = ltb-true (suc a) b f in absurd (let q : ⊥ = omega arith in q)
    go true false e f = refl
    go false true e f = refl
    go false false e f =
        let x = ltb-false b (suc a) e in
        let y = ltb-false (suc a) b f in
        ap (λ (n : ℕ). round binary32 false n 1) (let z : suc a - b ≡ b - suc a = omega arith in z)

-- the float sum for all signs; a whole number as a float is never -0
signs : (a b : ℤ) → sum binary32 (below-zero a) (large a) (below-zero b) (large b) 1 ≡ real (a +ℤ b)
unfolding sum of_int
signs (pos a) (pos b) = refl
signs (pos a) (negsuc b) = mixed b a
signs (negsuc a) (pos b) = turned a b ∙ mixed a b
signs (negsuc a) (negsuc b) = ap (λ (n : ℕ). round binary32 true n 1) (let z : suc a + suc b ≡ suc (suc (a + b)) = omega arith in z)

most : (z : ℤ) → mag z < 2 ^ 23 → large z < 2 ^ 24
most (pos n) h = omega arith
most (negsuc n) h = omega arith

-- the float sum of two whole numbers is the float of their sum
pub real-sum : (a b : ℤ) → mag a < 2 ^ 23 → mag b < 2 ^ 23 → real a ⊕ real b ≡ real (a +ℤ b)
real-sum a b h k =
    sum-at (real a) (real b) (below-zero a) (below-zero b) (large a) (large b) (real-value a (most a h)) (real-value b (most b k)) ∙ signs a b

-- ---- a pixel's numbers

module _ (w : ℕ → ℕ) (pixel : ℕ) where
  b-small : mag (alpha_base_at w pixel) < 2 ^ 23
  b-small = omega (arith, alpha-base-mag w pixel)

  p-small : mag (alpha_rest_at w pixel) < 2 ^ 23
  p-small = omega (arith, alpha-rest-mag w pixel)

  s-small : mag (k_ta_sum_at w pixel) < 2 ^ 23
  s-small = omega (arith, k-ta-sum-mag w pixel)

  both_small : mag (alpha_base_at w pixel +ℤ alpha_rest_at w pixel) < 2 ^ 23
  both_small =
      let h = sum-mag 557057 1048576 1605634 (alpha_base_at w pixel) (alpha_rest_at w pixel) (omega arith) (alpha-base-mag w pixel) (alpha-rest-mag w pixel) in omega arith

  sum_is : real (alpha_base_at w pixel) ⊕ real (alpha_rest_at w pixel) ≡ real (alpha_base_at w pixel +ℤ alpha_rest_at w pixel)
  sum_is = real-sum (alpha_base_at w pixel) (alpha_rest_at w pixel) b-small p-small

  alpha-scale : 30 + w 32 / 4096 % 16 ≤ 100
  alpha-scale = omega (arith, mod-lt (w 32 / 4096) (let h : 0 < 16 = lit< tt in h))

  k_ta_scale : 8 + w 56 / 16 % 16 ≤ 100
  k_ta_scale = omega (arith, mod-lt (w 56 / 16) (let h : 0 < 16 = lit< tt in h))

  pub exact : Exact w pixel
  unfolding alpha_at k_ta_at
  exact = record {
    alpha_base = whole (alpha_base_at w pixel) b-small;
    alpha_rest = whole (alpha_rest_at w pixel) p-small;
    alpha_sum = rw sum_is (whole (alpha_base_at w pixel +ℤ alpha_rest_at w pixel) both_small);
    alpha = rw sum_is (over-exact (alpha_base_at w pixel +ℤ alpha_rest_at w pixel) (30 + w 32 / 4096 % 16) both_small alpha-scale);
    k_ta_sum = whole (k_ta_sum_at w pixel) s-small;
    k_ta = over-exact (k_ta_sum_at w pixel) (8 + w 56 / 16 % 16) s-small k_ta_scale;
  }
