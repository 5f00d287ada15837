-- `mlx90640::interleave_at` meets its contract: the parity of the row by `half`, the column by the arm of the `match`. Assumes nothing.
use mathlib.Core.Path.{◌≡◌, sym, ap, ap₂}
use Prim.Native.Nat.{ℕ, ◌+◌, ◌*◌, ◌%◌}
use native.Mathlib.Nat.{mod-lt}
use native.Mathlib.Omega.{arith}
use lib.ListN.{get_or}
use Rattle.mlx90640.specs.Pixels.{row, column, turns, interleave_at}
use Rattle.mlx90640.proofs.Entries.{half, first-of-three}
use Rattle.mlx90640.proofs.interleave_at.Goals as goal

by_turn : (pixel k : ℕ) → get_or turns (column pixel % 4) 0 ≡ k → row pixel % 2 * 3 + k ≡ interleave_at pixel
unfolding interleave_at
by_turn pixel k e = ap₂ (λ (x y : ℕ). x + y) (half (row pixel % 2) (mod-lt (row pixel) (omega arith))) (sym e)

by-column : (pixel k : ℕ) → column pixel % 4 ≡ k → row pixel % 2 * 3 + get_or turns k 0 ≡ interleave_at pixel
by-column pixel k e = by_turn pixel _ (ap (λ (n : ℕ). get_or turns n 0) e)

pub returns-in-1 : goal.returns-in-1
returns-in-1 c = by-column c.args.pixel 1 c.in-1.is

pub returns-in-3 : goal.returns-in-3
returns-in-3 c = by-column c.args.pixel 3 c.in-3.is

pub returns-in_default : goal.returns-in_default
returns-in_default c =
    let pixel = c.args.pixel in
    let not_1 : column pixel % 4 ≡ 1 → ⊥ = λ e. omega arith in
    let not_3 : column pixel % 4 ≡ 3 → ⊥ = λ e. omega arith in
    let e = by_turn pixel 0 (first-of-three (column pixel % 4) (mod-lt (column pixel) (omega arith)) not_1 not_3) in
    omega arith
