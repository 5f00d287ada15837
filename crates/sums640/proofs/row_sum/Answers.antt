-- `sums640::row_sum` meets its contract: it adds the average and the row coefficient. Assumes nothing.
use mathlib.Core.Path.{◌≡◌, ap, ap₂, ◌∙◌}
use Prim.Native.Nat.{ℕ, ◌+◌}
use native.Mathlib.Nat.{mod-lt}
use native.Mathlib.Omega.{arith}
use lib.IntN.{ℤ, ◌+ℤ◌}
use mir.Syntax.{w32}
use mir.Val.{to_z, of_z}
use mir.Facts.{to_z-of_z}
use Rattle.util.specs.Words.{word_at}
use Rattle.util.specs.Fields.{signed}
use Rattle.sums640.specs.Sums.{row_scale}
use Rattle.sums640.specs.Inner.{nibble_at, row_from}
use Rattle.sums640.proofs.Range.{average-mag, nibble-mag}
use Rattle.sums640.proofs.row_sum.Goals as goal
use Rattle.sums640.proofs.row_sum.Goals.{After-coefficient}

module _ (c : After-coefficient) where
  abbrev w : ℕ → ℕ
  w = word_at c.args.image.now

  average-is : to_z w32 (of_z w32 c.average.result) ≡ signed 16 (w (c.args.first + 1))
  average-is = to_z-of_z {w = w32} (record { sfits = c.average.type_inv }) ∙ c.average.ensures

  row_is : to_z w32 (of_z w32 c.coefficient.result) ≡ nibble_at w (c.args.first + 2) c.args.row (row_scale (w c.args.first))
  row_is =
      to_z-of_z {w = w32} (record { sfits = c.coefficient.type_inv }) ∙ c.coefficient.ensures
      ∙ ap (λ (n : ℕ). nibble_at w (c.args.first + 2) c.args.row (row_scale n)) c.word_at-scales.ensures

pub sum-requires : goal.sum-requires
sum-requires c = (
  rw (average-is c) (omega (arith, average-mag (w c (c.args.first + 1)))),
  rw (row_is c) (omega (arith, nibble-mag (w c) (c.args.first + 2) c.args.row (row_scale (w c c.args.first)) (mod-lt _ (omega arith)))),
)

pub returns : goal.returns
unfolding row_from
returns c = to_z-of_z {w = w32} (record { sfits = c.sum.type_inv }) ∙ c.sum.ensures ∙ ap₂ (λ (a b : ℤ). a +ℤ b) (to_z-of_z {w = w32} (record { sfits = c.average.type_inv }) ∙ c.average.ensures)
    (to_z-of_z {w = w32} (record { sfits = c.coefficient.type_inv }) ∙ c.coefficient.ensures
    ∙ ap (λ (n : ℕ). nibble_at (word_at c.args.image.now) (c.args.first + 2) c.args.row (row_scale n)) c.word_at-scales.ensures)
