-- `formulas::per_pixel_v_ir` meets its contract: the code is the formula. Assumes nothing.
use mathlib.Core.Path.{refl}
use Rattle.formulas.specs.Pixel.{plain_of}
use Rattle.formulas.proofs.per_pixel_v_ir.Goals as goal

pub returns : goal.returns
unfolding plain_of
returns c = refl
