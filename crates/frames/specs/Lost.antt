-- Which pixels a call writes as NaN (0x7FC00000), and so counts as lost: exactly those whose value is NaN. Assumes nothing.
use Rattle.std.specs.Prelude.{ℕ, ◌<◌, ◌≡◌, true, List, eqb, get_or, Float}
use Rattle.std.specs.Float.{nan}
use Rattle.std.specs.Float.Ieee.{is_nan}
use Rattle.floats.specs.Constants.{pattern}
use Rattle.root.specs.Root.{celsius}
use Rattle.pixels.specs.Pixels.{touched}
use Rattle.frames.specs.Frames.{IrCall, ToCall, PassCall, infrared_at, final_at, onward}
use Rattle.frames.specs.Ranged.{ranged_at}

-- of n pixels, each that the mask asks for is the NaN pattern in d' exactly if its value x k is NaN
pub record LostExactly (n : ℕ) (mask d' : List ℕ) (x : ℕ → Float) : Type 0 where
  pub at : (k : ℕ) → k < n → touched mask k ≡ true → eqb (get_or d' k 0) pattern ≡ is_nan (x k)

-- for infrared values
abbrev pub LostInfrared : IrCall → List ℕ → Type 0
LostInfrared f d' = LostExactly f.size f.mask d' (infrared_at f)

-- for temperatures of the infrared values v
abbrev pub LostTo : ToCall → (ℕ → Float) → List ℕ → Type 0
LostTo f v d' = LostExactly f.size f.mask d' (λ (k : ℕ). celsius (final_at f v k))

-- for one pass
abbrev pub LostPass : PassCall → List ℕ → Type 0
LostPass f d' = LostTo (onward f) (infrared_at f.ir) d'

-- for the second pass
abbrev pub LostRanged : PassCall → List ℕ → Type 0
LostRanged f d' = LostExactly f.ir.size f.ir.mask d' (λ (k : ℕ). celsius (ranged_at (onward f) (infrared_at f.ir) k))

-- document 02, CR 9: in the second pass a pixel whose basic temperature is NaN is written as the NaN pattern
pub record NoBasic (f : PassCall) (d' : List ℕ) : Type 0 where
  pub at : (k : ℕ) → k < f.ir.size → touched f.ir.mask k ≡ true → celsius (final_at (onward f) (infrared_at f.ir) k) ≡ nan → get_or d' k 0 ≡ pattern
