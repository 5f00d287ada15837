-- `mlx90640::chessboard_entry` meets its contract, which follows from its callees' contracts. Assumes nothing.
use mathlib.Core.Path.{ap, ◌∙◌}
use Rattle.mlx90640.specs.Pixels.{entry_of}
use Rattle.mlx90640.proofs.chessboard_entry.Goals as goal

pub returns : goal.returns
returns c = c.checked_entry.ensures ∙ ap (entry_of c.args.pixel) c.chessboard_at.ensures
