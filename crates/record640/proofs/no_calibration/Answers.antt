-- `record640::no_calibration` meets its contract: all zero. Assumes nothing.
use mathlib.Core.Path.{refl}
use Rattle.record640.specs.Record.{no_calibration}
use Rattle.record640.proofs.no_calibration.Goals as goal

pub returns : goal.returns
unfolding no_calibration
returns c = refl
