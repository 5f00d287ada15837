-- No number of a record but its range coefficients is rounded: each is a field divided by a power of two, or computed from such by exact steps.
-- Assumes nothing.
use Prim.Native.Nat.{ℕ, suc, ◌+◌, ◌-◌, ◌*◌, ◌/◌, ◌%◌, ◌^◌, ◌<◌, ◌≤◌}
use mathlib.Core.Path.{◌≡◌, refl, sym, ap, ◌∙◌, subst}
use mathlib.Core.Bool.{Bool, true, false}
use native.Mathlib.Nat.{mod-lt, mul-le-mul}
use native.Mathlib.Omega.{arith}
use lib.Dec.{T, eqb, lit<, lit≤}
use lib.IntN.{ℤ, pos, negsuc, ◌+ℤ◌, ◌-ℤ◌, ◌*ℤ◌}
use lib.Pow.{pow-add, pow_pos}
use lib.Signed.{mag}
use lib.Ieee.{Float, nan, inf, fin, binary32, round, neg, add, div, of_int, of_bits}
use lib.Ieee.Exact.{HasValue}
use borrow.Author.Tests.{le-ltb}
use Rattle.lists.specs.Pick.{pick}
use Rattle.lists.specs.All.{none, ◌also◌}
use Rattle.lists.proofs.Every.{at}
use Rattle.floats.specs.Constants.{one}
use Rattle.floats.specs.Floats.{power_of_two, real, over, ◌⊕◌, ◌⊖◌, ◌⊗◌}
use Rattle.floats.specs.Exact.{Exactly}
use Rattle.floats.proofs.Exact.{fraction, over-exact}
use Rattle.floats.proofs.Bound.{product_at}
use Rattle.util.specs.Fields.{signed}
use Rattle.util.specs.Words.{word_at}
use Rattle.util.proofs.Words.{big-endian-lt}
use Rattle.util.proofs.Width.{stands}
use Rattle.std.specs.Prelude.{Option, Some, None}
use Rattle.mlx90640.specs.Corrections.{corrections_of, pattern_of}
use Rattle.mlx90640.proofs.Fields.{of_low}
use Rattle.mlx90640.proofs.Sums.{valued, exactly}
use Rattle.mlx90640.proofs.Exact as corrections
use Rattle.mlx90640.proofs.Exact.{field, whole}
use Rattle.record640.specs.Record.{k_v_ptat, k_t_ptat, alpha_ptat_of, whole_of, k_vs, k_v_cp, k_ta_cp, alpha_cp0, alpha_cps, k_s_ta, gradient_of, k_s_tos, k_v_scale, k_ta_scale, calibration_of}
use Rattle.record640.specs.Exact.{ratio, three, two, Claim, OfImage}

-- ---- 1 + ratio, and alpha_CP of subpage 1

-- 1 plus a field of six bits over 2 ^ 7 is exact, by a test over all such fields
right : ℕ → Bool
right n = valued (one ⊕ over (signed 6 n) 7) (pos 128 +ℤ signed 6 n) 7

tested : (n : ℕ) → n < 64 → T (right n)
unfolding right valued signed power_of_two add div of_int of_bits
tested n h = at right 6 tt n h

one_more : (n : ℕ) → Exactly (one ⊕ over (signed 6 n) 7) (pos 128 +ℤ signed 6 n) 7
unfolding right
one_more n =
    subst (λ (z : ℤ). Exactly (one ⊕ over z 7) (pos 128 +ℤ z) 7) (of_low 6 n (omega arith)) (exactly _ _ 7 (tested (n % 64) (mod-lt n (omega arith))))

-- 128 plus such a field is positive, and at most 160
above : (z : ℤ) → mag z < 32 → (m : ℕ) × ((pos 128 +ℤ z ≡ pos m) × (m ≤ 160))
above (pos n) h = (128 + n, (refl, omega arith))
above (negsuc n) h = (128 - suc n, (rw (le-ltb 128 (suc n) (omega arith)), omega arith))

-- the product of a / 2 ^ i and b / 2 ^ j is exact if a * b fits 24 bits
product : (x y : Float) (a b i j : ℕ) → a * b < 2 ^ 24 → i + j < 128 → Exactly x (pos a) i → Exactly y (pos b) j → Exactly (x ⊗ y) (pos a *ℤ pos b) (i + j)
product x y a b i j h l p q =
    subst (λ (z : Float). HasValue z false (a * b) (2 ^ (i + j)))
    (sym (product_at x y false false a (2 ^ i) b (2 ^ j) (pow_pos i) (pow_pos j) p q ∙ ap (round binary32 false (a * b)) (sym (pow-add 2 i j))))
    (fraction false (a * b) (i + j) h l)

module _ (w : ℕ → ℕ) (short : (k : ℕ) → w k < 2 ^ 16) where
  alpha-first : Exactly (alpha_cp0 w) (pos (w 57 % 1024)) (27 + w 32 / 4096)
  unfolding alpha_cp0
  alpha-first = over-exact (pos (w 57 % 1024)) (27 + w 32 / 4096) (let h = mod-lt (w 57) (let z : 0 < 1024 = lit< tt in z) in omega arith) (let h = short 32 in omega arith)

  alpha-second : Exactly (alpha_cp0 w ⊗ (one ⊕ over (ratio w) 7)) (pos (w 57 % 1024) *ℤ (pos 128 +ℤ ratio w)) (34 + w 32 / 4096)
  alpha-second =
      let a = above (ratio w) ((stands 6 (lit≤ tt)).range (w 57 / 1024)) in
      let m = a.0 in
      let few : w 57 % 1024 * m ≤ 1023 * 160 = mul-le-mul (let h = mod-lt (w 57) (let z : 0 < 1024 = lit< tt in z) in let y : w 57 % 1024 ≤ 1023 = omega arith in y) a.1.1 in
      let e : 34 + w 32 / 4096 ≡ 27 + w 32 / 4096 + 7 = omega arith in
      let p : Exactly (one ⊕ over (ratio w) 7) (pos m) 7 = rw a.1.0 at (one_more (w 57 / 1024)) in
      rw (a.1.0, e) (product (alpha_cp0 w) (one ⊕ over (ratio w) 7) (w 57 % 1024) m (27 + w 32 / 4096) 7 (omega arith) (let h = short 32 in omega arith) alpha-first p)

-- ---- the access pattern, and the gradient

twice : (x : Float) → neg (neg x) ≡ x
unfolding neg
twice nan = refl
twice (inf true) = refl
twice (inf false) = refl
twice (fin true m e) = refl
twice (fin false m e) = refl

back : (x : Float) (z : ℤ) → Exactly x z 3 → Exactly (neg (neg x)) z 3
back x z h = rw (twice x) h

of-gradient : (b : Bool) (x y : Float) (z : ℤ) → Exactly y z 5 → ◌≡◌ {A = Option Float} (pick b None (Some y)) (Some x) → Exactly x z 5
of-gradient true x y z h e = absurd (cc)
of-gradient false x y z h e = let q : y ≡ x = cc in subst (λ (x : Float). Exactly x z 5) q h

-- ---- the claims

whole-field : (n : ℕ) → Exactly (real (signed 16 n)) (signed 16 n) 0
whole-field n = whole (signed 16 n) (let h = (stands 16 (lit≤ tt)).range n in omega arith)

-- each exponent is small
k-v-small : (w : ℕ → ℕ) → k_v_scale w ≤ 100
k-v-small w = omega arith

k-ta-small : (w : ℕ → ℕ) → k_ta_scale w ≤ 100
k-ta-small w = omega arith

slope-small : (n : ℕ) → 8 + n % 16 ≤ 100
slope-small n = omega arith

pub exact : Claim
unfolding calibration_of k_v_ptat k_t_ptat alpha_ptat_of whole_of k_vs k_v_cp k_ta_cp alpha_cps k_s_ta gradient_of k_s_tos pattern_of corrections_of
exact w short range =
    let c = corrections.exact (w 53) in
    let x = over (three w) 3 in
    let y = over (two w) 1 in
    record {
      singles =
          field 6 _ 12 (lit≤ tt) (lit≤ tt) (lit≤ tt)
          also field 10 _ 3 (lit≤ tt) (lit≤ tt) (lit≤ tt)
          also whole-field (w 49)
          also whole (pos (w 16 / 4096 / 4 + 8)) (let h = short 16 in omega arith)
          also whole-field (w 48)
          also field 8 _ 13 (lit≤ tt) (lit≤ tt) (lit≤ tt)
          also field 8 _ _ (lit≤ tt) (lit≤ tt) (k-v-small w)
          also field 8 _ _ (lit≤ tt) (lit≤ tt) (k-ta-small w)
          also c.chess_1
          also none;
      lists =
          field 8 _ _ (lit≤ tt) (lit≤ tt) (slope-small _)
          also field 8 _ _ (lit≤ tt) (lit≤ tt) (slope-small _)
          also field 8 _ _ (lit≤ tt) (lit≤ tt) (slope-small _)
          also field 8 _ _ (lit≤ tt) (lit≤ tt) (slope-small _)
          also field 4 _ _ (lit≤ tt) (lit≤ tt) (k-v-small w)
          also field 4 _ _ (lit≤ tt) (lit≤ tt) (k-v-small w)
          also field 4 _ _ (lit≤ tt) (lit≤ tt) (k-v-small w)
          also field 4 _ _ (lit≤ tt) (lit≤ tt) (k-v-small w)
          also alpha-first w short
          also one_more (w 57 / 1024)
          also alpha-second w short
          also none;
      pattern =
          back x (three w) c.chess_3
          also c.b
          also back (y ⊕ x) (pos 4 *ℤ two w +ℤ three w) c.c
          also c.chess_3
          also back (y ⊖ x) (pos 4 *ℤ two w -ℤ three w) c.b
          also c.c
          also none;
      gradient = λ x e. of-gradient (eqb (w 60 % 256) 0) x (over (signed 8 (w 60)) 5) (signed 8 (w 60)) (field 8 (w 60) 5 (lit≤ tt) (lit≤ tt) (lit≤ tt)) e;
    }

pub of_image : OfImage
unfolding word_at
of_image image h range = exact (word_at image) (λ k. big-endian-lt _ _ (h (k * 2)) (h (k * 2 + 1))) range
