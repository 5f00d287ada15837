-- `offsets::offset_at` meets its contract: it adds the average and the product. Assumes nothing.
use mathlib.Core.Path.{ap₂, ◌∙◌}
use lib.IntN.{ℤ, ◌+ℤ◌}
use mir.Facts.{to_z-of_z}
use mir.Syntax.{w32}
use Rattle.offsets.specs.Offsets.{offset_at}
use Rattle.offsets.proofs.Range.{average-clean}
use Rattle.offsets.proofs.offset_at.Goals as goal

pub returns : goal.returns
unfolding offset_at
returns c =
    to_z-of_z {w = w32} (record { sfits = c.sum.type_inv }) ∙ c.sum.ensures
    ∙ ap₂ (λ (a z : ℤ). a +ℤ z) (average-clean _ _ c.requires.1)
    (to_z-of_z {w = w32} (record { sfits = c.product_at.type_inv }) ∙ c.product_at.ensures.0)
