-- `formulas::ranged_value` meets its contract. Assumes nothing.
use mathlib.Core.Path.{refl}
use Rattle.formulas.specs.Pixel.{ranged_of}
use Rattle.formulas.proofs.ranged_value.Goals as goal

pub returns : goal.returns
unfolding ranged_of
returns c = refl
