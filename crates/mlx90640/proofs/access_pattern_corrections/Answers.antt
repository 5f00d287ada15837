-- `mlx90640::access_pattern_corrections` meets its contract: three fields, each divided by its power of two. Assumes nothing.
use mathlib.Core.Path.{◌≡◌, refl, sym}
use native.Mathlib.Omega.{arith}
use lib.Ieee.{binary32, of_bits}
use Rattle.floats.specs.Floats.{power_of_two}
use Rattle.floats.proofs.Power.{power-bits}
use Rattle.mlx90640.specs.Corrections.{corrections_of}
use Rattle.mlx90640.proofs.Fields.{back}
use Rattle.mlx90640.proofs.access_pattern_corrections.Goals as goal

eight : of_bits binary32 0x41000000 ≡ power_of_two 3
eight = power-bits 3 (omega arith)

two : of_bits binary32 0x40000000 ≡ power_of_two 1
two = power-bits 1 (omega arith)

sixteen : of_bits binary32 0x41800000 ≡ power_of_two 4
sixteen = power-bits 4 (omega arith)

pub returns : goal.returns
unfolding corrections_of
returns c =
    rw (
      back 5 _ _ (omega arith) (omega arith) c.i8_from_bits.ensures,
      back 5 _ _ (omega arith) (omega arith) c.i8_from_bits-2.ensures,
      back 6 _ _ (omega arith) (omega arith) c.i8_from_bits-3.ensures,
      sym eight,
      sym two,
      sym sixteen,
    ) refl
