-- The whole numbers of the MLX90640's pixels, over `w`, a card's words by their numbers; `word_of` is the map's. Each is exact, and a sum of signed fields times powers
-- of two. Assumes nothing.
use Rattle.std.specs.Prelude.{ℕ, ◌+◌, ◌*◌, ◌/◌, ◌%◌, ◌^◌, Bool, true, false, List, [], ◌∷◌, Float, ℤ, pos, ◌+ℤ◌, ◌*ℤ◌, get_or}
use Rattle.lists.specs.First.{first_from}
use Rattle.lists.specs.Pick.{pick}
use Rattle.floats.specs.Floats.{real, power_of_two, over, ◌⊕◌, ◌⊘◌}
use Rattle.util.specs.Fields.{signed, in_i16}
use Rattle.mlx90640.specs.Pixels.{row, column, chessboard_at}
use Rattle.map640.specs.declared.Field.{Field}
use Rattle.map640.specs.declared.Field.TheVariants.{OffsetScales, OffsetAverage, OffsetRow, OffsetColumn, AlphaScales, AlphaAverage, AlphaRow, AlphaColumn, KTaAverage, Scales, Pixel}
use Rattle.map640.specs.Map.{word_of}

abbrev pub pixel_count : ℕ
pixel_count = 768

-- what the low bits of n stand for, times 2 ^ scale
unfoldable pub scaled : ℕ → ℕ → ℕ → ℤ
scaled width n scale = signed width n *ℤ pos (2 ^ scale)

-- of a word of four nibbles, from the top: its own, rows, columns, rest
abbrev pub row_scale : ℕ → ℕ
row_scale word = word / 256 % 16

abbrev pub column_scale : ℕ → ℕ
column_scale word = word / 16 % 16

abbrev pub rest_scale : ℕ → ℕ
rest_scale word = word % 16

-- coefficient k of a field: four to a word, the lowest nibble first
unfoldable pub coefficient_at : (ℕ → ℕ) → Field → ℕ → ℕ → ℤ
coefficient_at w field k scale = scaled 4 (w (word_of field (k / 4)) / 2 ^ (4 * (k % 4))) scale

-- ---- average + row + column, of the offsets or of alpha

pub record Part : Type 0 where
  pub scales : Field
  pub average : Field
  pub rows : Field
  pub columns : Field

abbrev pub offset_part : Part
offset_part = record { scales = OffsetScales; average = OffsetAverage; rows = OffsetRow; columns = OffsetColumn }

abbrev pub alpha_part : Part
alpha_part = record { scales = AlphaScales; average = AlphaAverage; rows = AlphaRow; columns = AlphaColumn }

-- the word of scales
abbrev pub scales_of : (ℕ → ℕ) → Part → ℕ
scales_of w part = w (word_of part.scales 0)

unfoldable pub row_sum_at : (ℕ → ℕ) → Part → ℕ → ℤ
row_sum_at w part k = signed 16 (w (word_of part.average 0)) +ℤ coefficient_at w part.rows k (row_scale (scales_of w part))

unfoldable pub column_at : (ℕ → ℕ) → Part → ℕ → ℤ
column_at w part k = coefficient_at w part.columns k (column_scale (scales_of w part))

unfoldable pub base_at : (ℕ → ℕ) → Part → ℕ → ℤ
base_at w part pixel = row_sum_at w part (row pixel) +ℤ column_at w part (column pixel)

-- ---- the four whole numbers of a pixel: its offset, B and P of its alpha, S of its K_Ta

abbrev pub pixel_word : (ℕ → ℕ) → ℕ → ℕ
pixel_word w pixel = w (word_of Pixel pixel)

unfoldable pub offset_at : (ℕ → ℕ) → ℕ → ℤ
offset_at w pixel = base_at w offset_part pixel +ℤ scaled 6 (pixel_word w pixel / 1024) (rest_scale (scales_of w offset_part))

unfoldable pub alpha_base_at : (ℕ → ℕ) → ℕ → ℤ
alpha_base_at w pixel = base_at w alpha_part pixel

unfoldable pub alpha_rest_at : (ℕ → ℕ) → ℕ → ℤ
alpha_rest_at w pixel = scaled 6 (pixel_word w pixel / 16) (rest_scale (scales_of w alpha_part))

-- the upper byte first: the chessboard's entries
abbrev pub average_bytes : (ℕ → ℕ) → List ℕ
average_bytes w =
    let first = w (word_of KTaAverage 0) in
    let second = w (word_of KTaAverage 1) in
    first / 256 ∷ first ∷ second / 256 ∷ second ∷ []

unfoldable pub average_at : (ℕ → ℕ) → ℕ → ℤ
average_at w entry = signed 8 (get_or (average_bytes w) entry 0)

unfoldable pub k_ta_sum_at : (ℕ → ℕ) → ℕ → ℤ
k_ta_sum_at w pixel = average_at w (chessboard_at pixel) +ℤ scaled 3 (pixel_word w pixel / 2) (rest_scale (w (word_of Scales 0)))

-- ---- as the tables have them: offsets stay whole, alpha is over 2 ^ (30 + its scale), K_Ta over 2 ^ (8 + scale 1)

unfoldable pub alpha_at : (ℕ → ℕ) → ℕ → Float
alpha_at w pixel = (real (alpha_base_at w pixel) ⊕ real (alpha_rest_at w pixel)) ⊘ power_of_two (30 + scales_of w alpha_part / 4096 % 16)

unfoldable pub k_ta_at : (ℕ → ℕ) → ℕ → Float
k_ta_at w pixel = over (k_ta_sum_at w pixel) (8 + w (word_of Scales 0) / 16 % 16)

-- ---- refusal 5: the first pixel with one of the four outside i16; 768 if there is none

abbrev pub wholes_at : (ℕ → ℕ) → ℕ → List ℤ
wholes_at w pixel = offset_at w pixel ∷ alpha_base_at w pixel ∷ alpha_rest_at w pixel ∷ k_ta_sum_at w pixel ∷ []

abbrev pub any_outside : List ℤ → Bool
any_outside [] = false
any_outside (z ∷ rest) = pick (in_i16 z) (any_outside rest) true

unfoldable pub outside_at : (ℕ → ℕ) → ℕ → Bool
outside_at w pixel = any_outside (wholes_at w pixel)

unfoldable pub first_outside : (ℕ → ℕ) → ℕ
first_outside w = first_from (outside_at w) 0 pixel_count
