-- Where bounds by averages and scales are within i16, no pixel is outside it. Assumes nothing.
use Prim.Native.Nat.{ℕ, ◌+◌, ◌*◌, ◌^◌, ◌<◌, ◌≤◌}
use mathlib.Core.Path.{◌≡◌}
use mathlib.Core.Bool.{true}
use native.Mathlib.Nat.{le_trans}
use lib.IntN.{ℤ}
use lib.Signed.{mag}
use borrow.Author.Tests.{lt-ltb}
use Rattle.util.specs.Fields.{in_i16}
use Rattle.sums640.specs.Sums.{pixel_count, rest_scale, first_outside}
use Rattle.sums640.specs.Inner.{base_bound}
use Rattle.sums640.proofs.Range.{offset-within, alpha-base-within, alpha-rest-within, k-ta-sum-within}
use Rattle.sums640.proofs.First.{passes, first-is}

inside : (z : ℤ) (b : ℕ) → mag z < b → b ≤ 32768 → in_i16 z ≡ true
unfolding in_i16
inside z b h l = lt-ltb (mag z) 32768 (le_trans h l)

pub none : (w : ℕ → ℕ) → base_bound (w 16) (w 17) + 32 * 2 ^ rest_scale (w 16) ≤ 32768 → base_bound (w 32) (w 33) ≤ 32768 → 32 * 2 ^ rest_scale (w 32) ≤ 32768
    → 128 + 4 * 2 ^ rest_scale (w 56) ≤ 32768 → first_outside w ≡ pixel_count
none w offset base rest k_ta = (first-is w).only (λ pixel _. passes w pixel (record {
  offset = inside _ _ (offset-within w pixel) offset;
  alpha_base = inside _ _ (alpha-base-within w pixel) base;
  alpha_rest = inside _ _ (alpha-rest-within w pixel) rest;
  k_ta_sum = inside _ _ (k-ta-sum-within w pixel) k_ta;
}))
