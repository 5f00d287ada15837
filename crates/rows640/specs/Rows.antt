-- The MLX90640's paper, "What differs in a frame": K_V and the access term of a pixel. Assumes nothing.
use Rattle.std.specs.Prelude.{ℕ, List, get_or, Float}
use Rattle.std.specs.Float.{nan}
use Rattle.floats.specs.Constants.{plus_zero}
use Rattle.mlx90640.specs.Pixels.{chessboard_at, interleave_at}
use Rattle.rows640.specs.declared.Pattern.{Pattern}
use Rattle.rows640.specs.declared.Pattern.TheVariants.{Chess, Interleave}

-- the number of pixels in two rows
abbrev pub two_rows : ℕ
two_rows = 64

-- K_V of pixel k: its entry of the chessboard's four
unfoldable pub k_v_at : List Float → ℕ → Float
k_v_at four k = get_or four (chessboard_at k) nan

-- the access term of pixel k: 0 in chess, in interleave its entry of the six
unfoldable pub access_at : Pattern → List Float → ℕ → Float
access_at Chess six k = plus_zero
access_at Interleave six k = get_or six (interleave_at k) nan
