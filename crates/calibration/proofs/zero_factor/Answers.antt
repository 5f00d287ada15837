-- `calibration::zero_factor` meets its contract: it reads the ranges and searches them. Assumes nothing.
use mathlib.Core.Path.{ap, ◌∙◌}
use Rattle.calibration.specs.declared.Ranges.{Ranges}
use Rattle.calibration.specs.Coefficients.{range_count, zero_factor}
use Rattle.util.specs.Found.{found_below}
use Rattle.calibration.proofs.zero_factor.Goals as goal

pub returns : goal.returns
returns c = c.zero_factor.ensures ∙ ap (λ (g : Ranges). found_below range_count (zero_factor g c.args.basic_range)) c.read_ranges.ensures
