-- `sums640::coefficient` meets its contract: it scales the nibble of its word. Assumes nothing.
use mathlib.Core.Path.{ap, ◌∙◌}
use Prim.Native.Nat.{ℕ, ◌*◌, ◌%◌, ◌/◌, ◌^◌}
use mir.Facts.{to_z-of_z}
use mir.Syntax.{w32}
use Rattle.sums640.specs.Sums.{scaled}
use Rattle.sums640.specs.Inner.{nibble_at}
use Rattle.sums640.proofs.coefficient.Goals as goal

pub returns : goal.returns
unfolding nibble_at
returns c =
    let n = c in
    let w = n in
    to_z-of_z {w = w32} (record { sfits = c.scaled.type_inv }) ∙ c.scaled.ensures
    ∙ ap (λ (x : ℕ). scaled 4 x w.args.scale) (n.from_nibble.ensures ∙ ap (λ (x : ℕ). x / 2 ^ (4 * (w.args.index % 4))) w.word_at-word.ensures)
