-- If no growth below the basic range is a zero, `zero_factor` finds no range. Assumes nothing.
use Rattle.std.proofs.Common.{◌≡◌, ℕ, zero, suc, ◌<◌, Bool, false, List, ℤ, refl, arith}
use lib.Ieee.{Float}
use Rattle.lists.specs.Last.{last_below}
use Rattle.floats.specs.Floats.{is_zero}
use Rattle.ranges.specs.Coefficients.{growth, zero_factor}

none_found : (p : ℕ → Bool) (none n : ℕ) → ((r : ℕ) → r < n → p r ≡ false) → last_below p none n ≡ none
unfolding last_below
none_found p none zero f = refl
none_found p none (suc n) f = rw (f n (omega arith)) (none_found p none n (λ r h. f r (omega arith)))

pub no_zero : (n : ℕ) (corners : List ℤ) (k_s_to : List Float) (b : ℕ) → ((r : ℕ) → r < b → is_zero (growth corners k_s_to r) ≡ false) → zero_factor n corners k_s_to b ≡ n
unfolding zero_factor
no_zero n corners k_s_to b = none_found (λ (r : ℕ). is_zero (growth corners k_s_to r)) n b
