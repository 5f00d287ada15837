-- `mlx90640::word_to_u4s` meets its contract, which follows from its callee's contract for each nibble. Assumes nothing.
use mathlib.Core.Path.{refl}
use Rattle.mlx90640.specs.Words.{u4s}
use Rattle.mlx90640.proofs.word_to_u4s.Goals as goal

pub returns : goal.returns
unfolding u4s
returns c = rw (c.u4.ensures, c.u4-2.ensures, c.u4-3.ensures, c.u4-4.ensures) refl
