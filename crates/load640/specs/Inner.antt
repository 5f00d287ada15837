-- For inner functions only: what the gate has seen to. Assumes nothing.
use Rattle.std.specs.Prelude.{ℕ, ◌≤◌, ◌<◌, List, length}
use Rattle.sums640.specs.Sums.{pixel_count}
use Rattle.load640.specs.Load.{image_bytes, range_count, Tables}

-- of an image, the basic range and the tables
pub record Passed (image : List ℕ) (range : ℕ) (t : Tables) : Type 0 where
  pub long : image_bytes ≤ length image
  pub basic : range < range_count
  pub offsets : pixel_count ≤ length t.offsets
  pub alpha : pixel_count ≤ length t.alpha
  pub k_ta : pixel_count ≤ length t.k_ta
