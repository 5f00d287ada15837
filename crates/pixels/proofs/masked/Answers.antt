-- `pixels::masked` meets its contract: the mask byte is the pixel's. Assumes nothing.
use mathlib.Core.Path.{refl}
use Rattle.pixels.specs.Pixels.{touched}
use Rattle.pixels.proofs.masked.Goals as goal

pub returns : goal.returns
unfolding touched
returns c = refl
