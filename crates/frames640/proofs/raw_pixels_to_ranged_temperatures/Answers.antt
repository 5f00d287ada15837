-- `frames640::raw_pixels_to_ranged_temperatures` meets its contract: the frame's own compensation reading is passed on. Assumes nothing.
use borrow.Author.Rules.{rules}
use mathlib.Core.Path.{sym}
use Rattle.frames640.proofs.raw_pixels_to_ranged_temperatures.Goals as goal

pub returns : goal.returns
returns c = let e = sym c.own_reading-reading.ensures in rw e (search rules)
