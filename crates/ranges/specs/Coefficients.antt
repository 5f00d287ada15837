-- Document 02, CR 9: the range coefficients, from the corners T and K_sTo of a camera's n ranges and the basic range b. Each operator is one f32 step,
-- rounded once; T next - T own is a whole number. Assumes nothing.
use Rattle.std.specs.Prelude.{ℕ, zero, suc, ◌+◌, ◌-◌, List, ℤ, ◌-ℤ◌, nat_lt, slice_index_or, Float}
use Rattle.std.specs.Float.{nan}
use Rattle.lists.specs.Pick.{pick}
use Rattle.lists.specs.Last.{last_below}
use Rattle.floats.specs.Floats.{◌⊕◌, ◌⊗◌, ◌⊘◌, real, is_zero}
use Rattle.floats.specs.Constants.{one}
use Rattle.ranges.specs.Corners.{corner_at}

-- the growth of range r: 1 + K × (T next - T own)
unfoldable pub growth : List ℤ → List Float → ℕ → Float
growth corners k_s_to r = one ⊕ slice_index_or k_s_to r nan ⊗ real (corner_at corners (r + 1) -ℤ corner_at corners r)

-- the coefficient m ranges above b: that of the range below times the growth of that lower range; 1 for m = 0
unfoldable pub above : List ℤ → List Float → ℕ → ℕ → Float
above corners k_s_to b zero = one
above corners k_s_to b (suc m) = above corners k_s_to b m ⊗ growth corners k_s_to (b + m)

-- the coefficient m ranges below b: that of the range above divided by the range's own growth; 1 for m = 0
unfoldable pub below : List ℤ → List Float → ℕ → ℕ → Float
below corners k_s_to b zero = one
below corners k_s_to b (suc m) = below corners k_s_to b m ⊘ growth corners k_s_to (b - suc m)

-- the coefficient of range r
unfoldable pub coefficient_at : List ℤ → List Float → ℕ → ℕ → Float
coefficient_at corners k_s_to b r = pick (nat_lt r b) (below corners k_s_to b (b - r)) (above corners k_s_to b (r - b))

-- the range nearest below b whose coefficient is divided by a zero; n if there is none
unfoldable pub zero_factor : ℕ → List ℤ → List Float → ℕ → ℕ
zero_factor n corners k_s_to b = last_below (λ (r : ℕ). is_zero (growth corners k_s_to r)) n b
