-- Definitions for inner functions, and the precondition of the coefficients' functions. Assumes nothing.
use Rattle.std.specs.Prelude.{◌≡◌, ℕ, ◌<◌, ◌≤◌, List, length, ℤ, slice_index_or, Float}
use Rattle.std.specs.Float.{nan}
use Rattle.ranges.specs.Coefficients.{coefficient_at}

-- the precondition: b is one of n ranges, and each range has its corner and its K_sTo
pub record Ranged (n b : ℕ) (corners : List ℤ) (k_s_to : List Float) : Type 0 where
  pub basic : b < n
  pub corners_long : n ≤ length corners
  pub k_long : n ≤ length k_s_to

-- after a call, entries lo to hi - 1 are the coefficients, and those from hi on are unchanged
pub record Between (corners : List ℤ) (k_s_to : List Float) (b lo hi : ℕ) (before list : List Float) : Type 0 where
  pub long : length list ≡ length before
  pub at : (r : ℕ) → lo ≤ r → r < hi → slice_index_or list r nan ≡ coefficient_at corners k_s_to b r
  pub kept : (r : ℕ) → hi ≤ r → slice_index_or list r nan ≡ slice_index_or before r nan
