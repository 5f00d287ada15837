-- Numbers inside i16 equal their low 16 bits as signed numbers; the low bits of sums and shifts are the sums and shifts of low bits, wrapped.
-- Assumes nothing.
use Prim.Native.Nat.{ℕ, zero, suc, ◌+◌, ◌-◌, ◌*◌, ◌/◌, ◌%◌, ◌^◌, ◌<◌}
use mathlib.Core.Path.{◌≡◌, refl, sym, ap, ◌∙◌, subst}
use mathlib.Core.Bool.{Bool, true, false, cond}
use native.Mathlib.Nat.{mul_assoc, add-mul}
use native.Mathlib.Omega.{arith}
use lib.Dec.{ltb, lit≤}
use lib.IntN.{ℤ, pos, negsuc, neg_ℤ, ◌+ℤ◌, ◌*ℤ◌}
use lib.Signed.{mag}
use borrow.Author.Tests.{ltb-true, ltb-false, lt-ltb}
use Rattle.util.specs.Fields.{signed, in_i16}
use Rattle.util.proofs.Width.{stands}
use Rattle.sums640.specs.First.{Inside}
use Rattle.sums640.specs.Low.{low, Low, Wraps, Lows, Kept}
use Rattle.sums640.proofs.First.{judged, first-is}

small : (z : ℤ) → in_i16 z ≡ true → mag z < 32768
unfolding in_i16
small z e = ltb-true (mag z) 32768 e

inside : (z : ℤ) → in_i16 z ≡ true → Low z
unfolding low
inside (pos n) e =
    let h = small (pos n) e in
    ap (signed 16) (let z : n % 65536 ≡ n = omega arith in z) ∙ (stands 16 (lit≤ tt)).only (pos n) h
inside (negsuc n) e =
    let h = small (negsuc n) e in
    ap (signed 16) (let z : 65535 - n % 65536 ≡ 65536 - suc n = omega arith in z) ∙ (stands 16 (lit≤ tt)).only (negsuc n) h

only : (z : ℤ) → Low z → in_i16 z ≡ true
unfolding in_i16
only z e = lt-ltb (mag z) 32768 (subst (λ (y : ℤ). mag y < 32768) e ((stands 16 (lit≤ tt)).range (low z)))

-- ---- sums

mixed : (a b : ℕ) → low (pos b +ℤ negsuc a) ≡ (b % 65536 + (65535 - a % 65536)) % 65536
unfolding low
mixed a b = go (ltb b (suc a)) refl
  where
    go : (k : Bool) → ltb b (suc a) ≡ k → low (cond k (negsuc (suc a - suc b)) (pos (b - suc a))) ≡ (b % 65536 + (65535 - a % 65536)) % 65536
    go true e = let l = ltb-true b (suc a) e in let z : 65535 - (suc a - suc b) % 65536 ≡ (b % 65536 + (65535 - a % 65536)) % 65536 = omega arith in z
    go false e = let l = ltb-false b (suc a) e in let z : (b - suc a) % 65536 ≡ (b % 65536 + (65535 - a % 65536)) % 65536 = omega arith in z

sum : (a b : ℤ) → low (a +ℤ b) ≡ (low a + low b) % 65536
unfolding low
sum (pos a) (pos b) = let z : (a + b) % 65536 ≡ (a % 65536 + b % 65536) % 65536 = omega arith in z
sum (pos a) (negsuc b) = mixed b a
sum (negsuc a) (pos b) = mixed a b ∙ (let z : (b % 65536 + (65535 - a % 65536)) % 65536 ≡ ((65535 - a % 65536) + b % 65536) % 65536 = omega arith in z)
sum (negsuc a) (negsuc b) = let z : 65535 - suc (a + b) % 65536 ≡ ((65535 - a % 65536) + (65535 - b % 65536)) % 65536 = omega arith in z

-- ---- shifts

-- the low bits of -m are x if m and x add up to a multiple of 65536
opposite : (m x u : ℕ) → x + m ≡ 65536 * u → low (neg_ℤ (pos m)) ≡ x % 65536
unfolding low
opposite zero x u e = let z : 0 ≡ x % 65536 = omega arith in z
opposite (suc m) x u e = let z : 65535 - m % 65536 ≡ x % 65536 = omega arith in z

scaled : (a : ℤ) (p : ℕ) → low (a *ℤ pos p) ≡ low a * p % 65536
unfolding low
scaled (pos n) p =
    let e : n ≡ 65536 * (n / 65536) + n % 65536 = omega arith in
    let f : n * p ≡ 65536 * (n / 65536 * p) + n % 65536 * p = ap (λ (k : ℕ). k * p) e ∙ add-mul (65536 * (n / 65536)) (n % 65536) p ∙ ap (λ (k : ℕ). k + n % 65536 * p) (mul_assoc 65536 (n / 65536) p) in
    let z : n * p % 65536 ≡ n % 65536 * p % 65536 = omega arith in z
scaled (negsuc n) p =
    let x = 65535 - n % 65536 in
    let t = suc (n / 65536) in
    let e : x + suc n ≡ 65536 * t = omega arith in
    opposite (suc n * p) (x * p) (t * p) (sym (add-mul x (suc n) p) ∙ ap (λ (k : ℕ). k * p) e ∙ mul_assoc 65536 t p)

pub wraps : Wraps
wraps = record { inside = inside; only = only; sum = sum; shift = λ a scale. scaled a (2 ^ scale) }

lows : (w : ℕ → ℕ) (pixel : ℕ) → Inside w pixel → Lows w pixel
lows w pixel i = record {
  offset = inside _ i.offset;
  alpha_base = inside _ i.alpha_base;
  alpha_rest = inside _ i.alpha_rest;
  k_ta_sum = inside _ i.k_ta_sum;
}

pub kept : Kept
kept w e pixel h = lows w pixel ((judged w pixel).inside ((first-is w).none e pixel h))
