-- The entry of every pixel agrees with the datasheet's formula, by one computed test. Assumes nothing.
use mathlib.Core.Path.{◌≡◌, ap}
use mathlib.Core.Bool.{Bool, false}
use Prim.Native.Nat.{ℕ, suc, ◌*◌, ◌<◌}
use native.Mathlib.Omega.{arith}
use lib.Dec.{T, eqb, eqb→eq}
use lib.IntN.{ℤ, pos, negsuc, neg_ℤ, ◌-ℤ◌, ◌*ℤ◌}
use lib.ListN.{get_or}
use Rattle.lists.proofs.Every.{both, both_left, both_right, at}
use Rattle.mlx90640.specs.Pixels.{interleave_at, width, height}
use Rattle.mlx90640.specs.Formula.{il, conversion, of_three, of_two, Formula}

same : ℤ → ℤ → Bool
same (pos a) (pos b) = eqb a b
same (negsuc a) (negsuc b) = eqb a b
same (pos a) (negsuc b) = false
same (negsuc a) (pos b) = false

same→eq : (x y : ℤ) → T (same x y) → x ≡ y
unfolding same
same→eq (pos a) (pos b) t = ap pos (eqb→eq a b t)
same→eq (negsuc a) (negsuc b) t = ap negsuc (eqb→eq a b t)
same→eq (pos a) (negsuc b) t = absurd t
same→eq (negsuc a) (pos b) t = absurd t

three-test : ℕ → Bool
three-test pixel = same (get_or of_three (interleave_at pixel) (pos 0)) (pos 2 *ℤ il (suc pixel) -ℤ pos 1)

two-test : ℕ → Bool
two-test pixel = same (get_or of_two (interleave_at pixel) (pos 0)) (neg_ℤ (conversion (suc pixel)))

-- the test passes up to pixel 1,023
right : (pixel : ℕ) → pixel < 1024 → T (both (three-test pixel) (two-test pixel))
unfolding three-test two-test same interleave_at
right pixel h = at (λ (k : ℕ). both (three-test k) (two-test k)) 10 tt pixel h

pub by-formula : (pixel : ℕ) → pixel < width * height → Formula pixel
unfolding three-test two-test
by-formula pixel h = record {
  three = same→eq _ _ (both_left (three-test pixel) (two-test pixel) (right pixel (omega arith)));
  two = same→eq _ _ (both_right (three-test pixel) (two-test pixel) (right pixel (omega arith)));
}
