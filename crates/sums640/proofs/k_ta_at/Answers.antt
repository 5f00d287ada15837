-- `sums640::k_ta_at` meets its contract: the sum is exact in f32, and it is divided. Assumes nothing.
use mathlib.Core.Path.{ap, ap₂, ◌∙◌}
use Prim.Native.Nat.{ℕ, ◌+◌, ◌/◌, ◌%◌}
use native.Mathlib.Omega.{arith}
use lib.Ieee.{Float}
use mir.Syntax.{w32}
use mir.Facts.{to_z-of_z}
use Rattle.floats.specs.Floats.{real, power_of_two, ◌⊘◌}
use Rattle.util.specs.Words.{word_at}
use Rattle.sums640.specs.Sums.{k_ta_at}
use Rattle.sums640.proofs.Range.{k-ta-sum-mag, held}
use Rattle.sums640.proofs.k_ta_at.Goals as goal

pub int_to_float-result : goal.int_to_float-result
int_to_float-result c = let s = c in rw ((to_z-of_z {w = w32} (record { sfits = c.k_ta_sum_at.type_inv }) ∙ c.k_ta_sum_at.ensures)) (held _ (omega (arith, k-ta-sum-mag (word_at s.args.image.now) s.args.pixel)))

pub returns : goal.returns
unfolding k_ta_at
returns c = ap₂ (λ (x y : Float). x ⊘ y) (ap real ((to_z-of_z {w = w32} (record { sfits = c.k_ta_sum_at.type_inv }) ∙ c.k_ta_sum_at.ensures))) (c.exp2.ensures ∙ ap (λ (n : ℕ). power_of_two (8 + n / 16 % 16)) c.word_at-scales.ensures)
