-- `calculations::filtered_pixels_to_ir_data` meets its contract: the filter's average, or the frame's own compensation reading, is passed on.
-- Assumes nothing.
use lib.Ieee.{Float}
use Rattle.frames.specs.declared.Wanted.TheVariants.{Infrared}
use Rattle.frames.proofs.Calls.{makes-with}
use Rattle.calculations.specs.Frames.{ir_call, pass_call}
use Rattle.calculations.proofs.filtered_pixels_to_ir_data.Goals as goal

pub returns : goal.returns
returns c =
    let a = c.args in
    makes-with Infrared (λ (x : Float). pass_call a.calibration (ir_call a.calibration a.filtered.input x a.offsets0.now a.offsets1.now a.k_v.now a.k_ta.now a.pixels.now a.mask.now) a.k_ta.now)
    c.steadied-reading.ensures c.from_pixels.ensures
