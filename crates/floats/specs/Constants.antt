-- The constants of the formulas: each by name, as the bits that the code uses, and the number that it is the nearest binary32 to.
-- Assumes nothing.
use Rattle.std.specs.Prelude.{ℕ, ◌≡◌, false, List, [], ◌∷◌, Float}
use Rattle.std.specs.Float.{binary32}
use Rattle.std.specs.Float.Ieee.{of_bits, round}

abbrev pub plus_zero : Float
plus_zero = of_bits binary32 0x00000000

abbrev pub one : Float
one = of_bits binary32 0x3F800000

-- the nominal supply in the formula for infrared
abbrev pub three_point_three : Float
three_point_three = of_bits binary32 0x40533333

-- the ambient temperature of the calibration, in degrees Celsius
abbrev pub twenty_five : Float
twenty_five = of_bits binary32 0x41C80000

-- 273.15: 0 degrees Celsius in kelvin
abbrev pub freezing : Float
freezing = of_bits binary32 0x43889333

-- the largest raw alpha
abbrev pub alpha_full : Float
alpha_full = of_bits binary32 0x44FFE000

abbrev pub two_to18 : Float
two_to18 = of_bits binary32 0x48800000

-- the NaN pattern: the bits of every NaN that is written or returned
abbrev pub pattern : ℕ
pattern = 0x7FC00000

-- a claim about a constant: x is the binary32 nearest to num / den
pub data Constant : Type 0 where
  nearest : Float → ℕ → ℕ → Constant

-- that the claim is true
abbrev pub Holds : Constant → Type 0
Holds (nearest x num den) = x ≡ round binary32 false num den

-- the claims, one for each constant above
abbrev pub constants : List Constant
constants =
    nearest plus_zero 0 1
    ∷ nearest one 1 1
    ∷ nearest three_point_three 33 10
    ∷ nearest twenty_five 25 1
    ∷ nearest freezing 27315 100
    ∷ nearest alpha_full 2047 1
    ∷ nearest two_to18 262144 1
    ∷ []
