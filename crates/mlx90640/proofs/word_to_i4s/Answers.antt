-- `mlx90640::word_to_i4s` meets its contract: each nibble is a signed field of four bits. Assumes nothing.
use mathlib.Core.Path.{◌≡◌, refl}
use Prim.Native.Nat.{ℕ}
use native.Mathlib.Omega.{arith}
use lib.IntN.{ℤ}
use mir.Syntax.{w8}
use mir.Val.{to_z, of_z}
use Rattle.util.specs.Fields.{signed}
use Rattle.mlx90640.specs.Words.{i4s}
use Rattle.mlx90640.proofs.Fields.{back}
use Rattle.mlx90640.proofs.word_to_i4s.Goals as goal

nibble : (n : ℕ) (z : ℤ) → z ≡ signed 4 n → to_z w8 (of_z w8 z) ≡ signed 4 n
nibble n z e = back 4 n z (omega arith) (omega arith) e

pub returns : goal.returns
unfolding i4s
returns c =
    rw (
      nibble _ _ c.i8_from_bits.ensures,
      nibble _ _ c.i8_from_bits-2.ensures,
      nibble _ _ c.i8_from_bits-3.ensures,
      nibble _ _ c.i8_from_bits-4.ensures,
    ) refl
