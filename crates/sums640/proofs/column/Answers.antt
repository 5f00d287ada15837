-- `sums640::column` meets its contract: it reads the scale and the coefficient. Assumes nothing.
use mathlib.Core.Path.{ap, ◌∙◌}
use Prim.Native.Nat.{ℕ, ◌+◌}
use mir.Syntax.{w32}
use mir.Facts.{to_z-of_z}
use Rattle.util.specs.Words.{word_at}
use Rattle.sums640.specs.Sums.{column_scale}
use Rattle.sums640.specs.Inner.{nibble_at, column_from}
use Rattle.sums640.proofs.column.Goals as goal

pub returns : goal.returns
unfolding column_from
returns c = let s = c.args in to_z-of_z {w = w32} (record { sfits = c.coefficient.type_inv }) ∙ c.coefficient.ensures ∙ ap (λ (n : ℕ). nibble_at (word_at s.image.now) (s.first + 8) s.column (column_scale n)) c.word_at-scales.ensures
