-- `calibration::coefficients::coefficients` meets its contract: it lends two arrays of eight entries to read, and one to fill. Assumes nothing.
use mathlib.Core.Path.{◌≡◌, refl, ◌∙◌}
use mathlib.Core.List.{[], ◌∷◌}
use Prim.Native.Nat.{ℕ}
use lib.ListN.{replicate}
use lib.Ieee.{Float}
use Rattle.lists.specs.Written.{written, filled}
use Rattle.calibration.proofs.coefficients.coefficients.Goals as goal

eight : (f : ℕ → Float) (x : Float) → filled f 8 (replicate 8 x) ≡ f 0 ∷ f 1 ∷ f 2 ∷ f 3 ∷ f 4 ∷ f 5 ∷ f 6 ∷ f 7 ∷ []
unfolding written
eight f x = refl

pub returns : goal.returns
returns c = c.coefficients.ensures ∙ eight _ _
