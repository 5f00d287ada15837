-- The datasheet's formula for interleave mode, as the crate's comment quotes it, with pixel numbers p from 1: a pixel is corrected by factor 3 times
-- (2 IL - 1), less factor 2 times the conversion pattern. The six-entry pattern agrees with it. Assumes nothing.
use Rattle.std.specs.Prelude.{ℕ, suc, ◌-◌, ◌*◌, ◌/◌, ◌≡◌, List, [], ◌∷◌, ℤ, pos, negsuc, neg_ℤ, ◌+ℤ◌, ◌-ℤ◌, ◌*ℤ◌, get_or}
use Rattle.util.specs.Fields.{minus}
use Rattle.mlx90640.specs.Pixels.{interleave_at}

-- int(z / 4), rounded down
abbrev pub quarter : ℤ → ℤ
quarter (pos n) = pos (n / 4)
quarter (negsuc n) = negsuc (n / 4)

-- IL = int((p - 1) / 32) - int(int((p - 1) / 32) / 2) * 2
abbrev pub il : ℕ → ℤ
il p = pos ((p - 1) / 32) -ℤ pos ((p - 1) / 32 / 2 * 2)

-- the conversion pattern: (int((p - 3) / 4) - int((p - 2) / 4) + int(p / 4) - int((p - 1) / 4)) * (1 - 2 IL)
abbrev pub conversion : ℕ → ℤ
conversion p =
    (quarter (pos p -ℤ pos 3) -ℤ quarter (pos p -ℤ pos 2) +ℤ quarter (pos p) -ℤ quarter (pos p -ℤ pos 1)) *ℤ (pos 1 -ℤ pos 2 *ℤ il p)

-- the multiple of factor 3 in each entry of -A, B, -C, A, -B, C, where A is factor 3, B is factor 2 less factor 3, and C is their sum
abbrev pub of_three : List ℤ
of_three = minus 1 ∷ minus 1 ∷ minus 1 ∷ pos 1 ∷ pos 1 ∷ pos 1 ∷ []

-- the multiple of factor 2 in each entry
abbrev pub of_two : List ℤ
of_two = pos 0 ∷ pos 1 ∷ minus 1 ∷ pos 0 ∷ minus 1 ∷ pos 1 ∷ []

-- the entry that a pixel, numbered from 0, takes has the multiples of both factors that the formula gives
pub record Formula (pixel : ℕ) : Type 0 where
  pub three : get_or of_three (interleave_at pixel) (pos 0) ≡ pos 2 *ℤ il (suc pixel) -ℤ pos 1
  pub two : get_or of_two (interleave_at pixel) (pos 0) ≡ neg_ℤ (conversion (suc pixel))
