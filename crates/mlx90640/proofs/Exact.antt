-- The corrections are not rounded, because a whole number of up to 23 bits divided by a power of two is not (`over-exact`); nor are B and C, by Sums.
-- Assumes nothing.
use mathlib.Core.Path.{subst}
use Prim.Native.Nat.{ℕ, ◌-◌, ◌/◌, ◌%◌, ◌^◌, ◌<◌, ◌≤◌}
use native.Mathlib.Nat.{mod-lt, lt_of_lt_of_le}
use native.Mathlib.Omega.{arith}
use lib.IntN.{ℤ, pos, negsuc, ◌+ℤ◌, ◌-ℤ◌, ◌*ℤ◌}
use lib.Pow.{pow_mono}
use lib.Signed.{mag}
use Rattle.floats.specs.Floats.{real, over, ◌⊕◌, ◌⊖◌}
use Rattle.floats.specs.Exact.{Exactly}
use Rattle.floats.proofs.Exact.{over-exact}
use Rattle.floats.proofs.Ratio.{real-value}
use Rattle.util.specs.Fields.{signed}
use Rattle.util.proofs.Width.{stands}
use Rattle.mlx90640.specs.Corrections.{corrections_of, pattern_of}
use Rattle.mlx90640.specs.Exact.{Exact}
use Rattle.mlx90640.proofs.Fields.{of_low}
use Rattle.mlx90640.proofs.Sums.{difference, total}

-- a signed field of a word, divided by a power of two, is exact
pub field : (k n e : ℕ) → 1 ≤ k → k ≤ 16 → e ≤ 100 → Exactly (over (signed k n) e) (signed k n) e
field k n e p q l = over-exact (signed k n) e (lt_of_lt_of_le ((stands k p).range n) (pow_mono {i = k - 1} {j = 23} (omega arith))) l

-- a whole number of up to 23 bits is exact
pub whole : (z : ℤ) → mag z < 2 ^ 23 → Exactly (real z) z 0
whole (pos n) h = real-value (pos n) (omega arith)
whole (negsuc n) h = real-value (negsuc n) (omega arith)

-- a claim about all pairs of 5-bit fields holds for the fields of any word
of_fields : (P : ℤ → ℤ → Type 0) (m n : ℕ) → ((three two : ℕ) → three < 32 → two < 32 → P (signed 5 three) (signed 5 two)) → P (signed 5 m) (signed 5 n)
of_fields P m n h =
    subst (λ (z : ℤ). P z (signed 5 n)) (of_low 5 m (omega arith))
    (subst (P (signed 5 (m % 32))) (of_low 5 n (omega arith)) (h (m % 32) (n % 32) (mod-lt m (omega arith)) (mod-lt n (omega arith))))

pub exact : (word : ℕ) → Exact word
unfolding corrections_of pattern_of
exact word = record {
  chess_3 = field 5 _ 3 (omega arith) (omega arith) (omega arith);
  chess_2 = field 5 _ 1 (omega arith) (omega arith) (omega arith);
  chess_1 = field 6 _ 4 (omega arith) (omega arith) (omega arith);
  b = of_fields (λ (x y : ℤ). Exactly (over y 1 ⊖ over x 3) (pos 4 *ℤ y -ℤ x) 3) (word / 2 ^ 11) (word / 2 ^ 6) difference;
  c = of_fields (λ (x y : ℤ). Exactly (over y 1 ⊕ over x 3) (pos 4 *ℤ y +ℤ x) 3) (word / 2 ^ 11) (word / 2 ^ 6) total;
}
