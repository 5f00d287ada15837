-- `record640::resolution` meets its contract: two bits fit a u8. Assumes nothing.
use mathlib.Core.Path.{refl}
use Rattle.record640.specs.Record.{resolution_of}
use Rattle.record640.proofs.resolution.Goals as goal

pub returns : goal.returns
unfolding resolution_of
returns c = refl
