-- `mlx90640::interleave_pattern` meets its contract: the code is the definition. Assumes nothing.
use mathlib.Core.Path.{refl}
use Rattle.mlx90640.specs.Corrections.{pattern_of}
use Rattle.mlx90640.proofs.interleave_pattern.Goals as goal

pub returns : goal.returns
unfolding pattern_of
returns c = refl
