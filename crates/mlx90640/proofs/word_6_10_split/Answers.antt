-- `mlx90640::word_6_10_split` meets its contract: the six bits are a signed field of the bits above the ten. Assumes nothing.
use mathlib.Core.Path.{refl}
use Prim.Native.Nat.{◌/◌}
use native.Mathlib.Omega.{arith}
use Rattle.mlx90640.specs.Words.{six_ten}
use Rattle.mlx90640.proofs.Fields.{back}
use Rattle.mlx90640.proofs.word_6_10_split.Goals as goal

pub returns : goal.returns
unfolding six_ten
returns c = rw (back 6 (c.args.word / 1024) _ (omega arith) (omega arith) c.i8_from_bits.ensures) refl
