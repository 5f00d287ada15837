-- `mlx90640::chessboard_at` meets its contract: the index follows from two parities. Assumes nothing.
use Prim.Native.Nat.{◌%◌}
use native.Mathlib.Nat.{mod-lt}
use native.Mathlib.Omega.{arith}
use Rattle.mlx90640.specs.Pixels.{row, column, chessboard_at}
use Rattle.mlx90640.proofs.Entries.{corner}
use Rattle.mlx90640.proofs.chessboard_at.Goals as goal

pub returns : goal.returns
unfolding chessboard_at
returns c =
    let pixel = c.args.pixel in
    corner (row pixel % 2) (column pixel % 2) (mod-lt (row pixel) (omega arith)) (mod-lt (column pixel) (omega arith))
