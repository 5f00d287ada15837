-- `record640::zero_factor` meets its contract: it lends two arrays of four entries. Assumes nothing.
use mathlib.Core.Path.{ap₂, ◌∙◌}
use mathlib.Core.List.{List}
use lib.IntN.{ℤ}
use lib.Ieee.{Float}
use Rattle.util.specs.Found.{found_below}
use Rattle.ranges.specs.Coefficients.{zero_factor}
use Rattle.record640.proofs.zero_factor.Goals as goal

pub returns : goal.returns
returns c = c.zero_factor.ensures ∙ ap₂ (λ (t : List ℤ) (k : List Float). found_below 4 (zero_factor 4 t k c.args.basic_range)) c.corners_of-corner_temperatures.ensures c.k_s_to-k_s_to.ensures
