-- Each constant is the binary32 nearest to its number, and 273.15 is 8950579 / 32768. Assumes nothing.
use mathlib.Core.Path.{refl}
use mathlib.Core.Bool.{false}
use lib.Ieee.{of_bits, round}
use lib.Ieee.Exact.{HasValue}
use Rattle.lists.specs.All.{All, none, ◌also◌}
use Rattle.floats.specs.Constants.{Holds, constants, freezing}

pub all-nearest : All Holds constants
unfolding round of_bits
all-nearest = refl also refl also refl also refl also refl also refl also refl also none

pub freezing-is : HasValue freezing false 8950579 32768
unfolding of_bits
freezing-is = (refl, refl)
