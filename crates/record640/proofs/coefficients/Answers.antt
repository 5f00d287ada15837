-- `record640::coefficients` meets its contract: it lends two arrays of four entries to read, and one to fill. Assumes nothing.
use mathlib.Core.Path.{◌≡◌, refl, ap₂, ◌∙◌}
use mathlib.Core.List.{List, [], ◌∷◌}
use Prim.Native.Nat.{ℕ}
use lib.IntN.{ℤ}
use lib.Ieee.{Float}
use lib.ListN.{replicate}
use Rattle.lists.specs.Written.{written, filled}
use Rattle.ranges.specs.Coefficients.{coefficient_at}
use Rattle.record640.specs.Record.{coefficients_of}
use Rattle.record640.proofs.coefficients.Goals as goal

four : (f : ℕ → Float) (x : Float) → filled f 4 (replicate 4 x) ≡ f 0 ∷ f 1 ∷ f 2 ∷ f 3 ∷ []
unfolding written
four f x = refl

pub returns : goal.returns
unfolding coefficients_of
returns c =
    c.coefficients.ensures ∙ four _ _ ∙ ap₂ (λ (t : List ℤ) (k : List Float). let at : ℕ → Float = coefficient_at t k c.args.basic_range in at 0 ∷ at 1 ∷ at 2 ∷ at 3 ∷ []) c.corners_of-corner_temperatures.ensures c.k_s_to-k_s_to.ensures
