-- `calculations::raw_pixels_to_temperatures` meets its contract: the frame's own compensation reading is passed on. Assumes nothing.
use lib.Ieee.{Float}
use Rattle.frames.specs.declared.Wanted.TheVariants.{Temperature}
use Rattle.frames.proofs.Calls.{makes-with}
use Rattle.calculations.specs.Frames.{ir_call, pass_call}
use Rattle.calculations.proofs.raw_pixels_to_temperatures.Goals as goal

pub returns : goal.returns
returns c =
    let a = c.args in
    makes-with Temperature (λ (x : Float). pass_call a.calibration (ir_call a.calibration a.input x a.offsets0.now a.offsets1.now a.k_v.now a.k_ta.now a.pixels.now a.mask.now) a.alpha.now)
    c.own_reading-reading.ensures c.from_pixels.ensures
