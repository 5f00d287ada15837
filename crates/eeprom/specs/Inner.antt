-- For inner functions only: what holds once the gate has passed. Assumes nothing.
use Rattle.std.specs.Prelude.{ℕ, ◌<◌, ◌≤◌}
use Rattle.hamming.specs.Word.{data_values}
use Rattle.map.specs.Map.{frame_pixels}
use Rattle.offsets.specs.Offsets.{scales, offset_scale}
use Rattle.calibration.specs.Coefficients.{range_count}
use Rattle.eeprom.specs.Load.{Tables, shortest}

-- what holds of the data of the words, the basic range and the five tables
pub record Passed (w : ℕ → ℕ) (range : ℕ) (t : Tables) : Type 0 where
  pub small : (k : ℕ) → w k < data_values
  pub scale : offset_scale w < scales
  pub inside : range < range_count
  pub long : frame_pixels ≤ shortest t
