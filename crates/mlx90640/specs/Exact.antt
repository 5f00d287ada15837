-- No correction is rounded: each is exactly its field divided by its power of two, and B and C are exactly the difference and the sum of two of them.
-- Assumes nothing.
use Rattle.std.specs.Prelude.{ℕ, ◌/◌, ◌^◌, pos, ◌+ℤ◌, ◌-ℤ◌, ◌*ℤ◌, get_or}
use Rattle.floats.specs.Constants.{plus_zero}
use Rattle.floats.specs.Exact.{Exactly}
use Rattle.util.specs.Fields.{signed}
use Rattle.mlx90640.specs.Corrections.{corrections_of, pattern_of}

-- the corrections in this word, and entries B and C of its pattern, are exact
pub record Exact (word : ℕ) : Type 0 where
  pub chess_3 : Exactly (corrections_of word).chess_3 (signed 5 (word / 2 ^ 11)) 3
  pub chess_2 : Exactly (corrections_of word).chess_2 (signed 5 (word / 2 ^ 6)) 1
  pub chess_1 : Exactly (corrections_of word).chess_1 (signed 6 word) 4
  pub b : Exactly (get_or (pattern_of (corrections_of word)) 1 plus_zero) (pos 4 *ℤ signed 5 (word / 2 ^ 6) -ℤ signed 5 (word / 2 ^ 11)) 3
  pub c : Exactly (get_or (pattern_of (corrections_of word)) 5 plus_zero) (pos 4 *ℤ signed 5 (word / 2 ^ 6) +ℤ signed 5 (word / 2 ^ 11)) 3
