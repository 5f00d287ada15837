-- No whole number of a pixel leaves the range of an i32, by Range. Assumes nothing.
use Prim.Native.Nat.{ℕ}
use native.Mathlib.Omega.{arith}
use Rattle.sums640.specs.Held.{Held}
use Rattle.sums640.proofs.Range.{offset-mag, alpha-base-mag, alpha-rest-mag, k-ta-sum-mag}

pub held : (w : ℕ → ℕ) (pixel : ℕ) → Held w pixel
held w pixel = record {
  offset = omega (arith, offset-mag w pixel);
  alpha_base = omega (arith, alpha-base-mag w pixel);
  alpha_rest = omega (arith, alpha-rest-mag w pixel);
  k_ta_sum = omega (arith, k-ta-sum-mag w pixel);
}
