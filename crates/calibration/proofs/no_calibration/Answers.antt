-- `calibration::no_calibration` meets its contract: the code is the definition. Assumes nothing.
use mathlib.Core.Path.{refl}
use Rattle.calibration.specs.Calibration.{no_calibration}
use Rattle.calibration.proofs.no_calibration.Goals as goal

pub returns : goal.returns
unfolding no_calibration
returns c = refl
