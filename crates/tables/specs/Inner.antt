-- For inner functions only: the values that all pixels share for a coefficient, and the coefficient of a pixel. Assumes nothing.
use Rattle.std.specs.Prelude.{ℕ, ℤ, Float}
use Rattle.floats.specs.Floats.{◌⊕◌, ◌⊗◌, ◌⊘◌, real, power_of_two}
use Rattle.tables.specs.declared.K.{K}
use Rattle.tables.specs.declared.KBasis.{KBasis}
use Rattle.tables.specs.Tables.{average, scale1, scale2}

-- the values that all pixels share for coefficient k
abbrev pub basis_of : (ℕ → ℕ) → K → KBasis
basis_of w k = record { average = average w k; power1 = power_of_two (scale1 w k); power2 = power_of_two (scale2 w k) }

-- the coefficient of a pixel, from its raw coefficient and the shared values
abbrev pub k_of : ℤ → KBasis → Float
k_of raw basis = (real raw ⊗ basis.power2 ⊕ basis.average) ⊘ basis.power1
