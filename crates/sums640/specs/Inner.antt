-- For inner functions only. The shared numbers, those that many pixels have in common, computed once for a card: 24 rows and 32 columns of the offsets,
-- the same of alpha, and four averages of K_Ta. `first` is the word with the scales, which the rows and columns follow. Assumes nothing.
use Rattle.std.specs.Prelude.{ℕ, ◌+◌, ◌-◌, ◌*◌, ◌/◌, ◌%◌, ◌^◌, ◌≡◌, List, ltb, ℤ, pos, ◌+ℤ◌}
use Rattle.std.specs.Int.Signed.{mag}
use Rattle.lists.specs.Each.{Each}
use Rattle.lists.specs.Pick.{pick}
use Rattle.util.specs.Fields.{signed}
use Rattle.map640.specs.declared.Field.TheVariants.{OffsetRow, AlphaRow, KTaAverage}
use Rattle.map640.specs.Map.{word_of}
use Rattle.sums640.specs.Sums.{scaled, row_scale, column_scale, average_at}

-- coefficient k in the words from `first` on, times 2 ^ scale
unfoldable pub nibble_at : (ℕ → ℕ) → ℕ → ℕ → ℕ → ℤ
nibble_at w first k scale = scaled 4 (w (first + k / 4) / 2 ^ (4 * (k % 4))) scale

-- average + row coefficient k
unfoldable pub row_from : (ℕ → ℕ) → ℕ → ℕ → ℤ
row_from w first k = signed 16 (w (first + 1)) +ℤ nibble_at w (first + 2) k (row_scale (w first))

-- column coefficient k
unfoldable pub column_from : (ℕ → ℕ) → ℕ → ℕ → ℤ
column_from w first k = nibble_at w (first + 8) k (column_scale (w first))

-- the shared numbers of the offsets or of alpha: 24 rows, then 32 columns
abbrev pub part_from : (ℕ → ℕ) → ℕ → ℕ → ℤ
part_from w first k = pick (ltb k 24) (row_from w first k) (column_from w first (k - 24))

-- the number of shared numbers
abbrev pub shared_count : ℕ
shared_count = 116

-- the number of the word that shared number k is read from: four rows or columns to a word, or two averages
unfoldable pub shared_word : ℕ → ℕ
shared_word k = pick (ltb k 56) (word_of OffsetRow (k / 4)) (pick (ltb k 112) (word_of AlphaRow ((k - 56) / 4)) (word_of KTaAverage ((k - 112) / 2)))

-- shared number k: those of the offsets, those of alpha, the averages of K_Ta
unfoldable pub shared_at : (ℕ → ℕ) → ℕ → ℤ
shared_at w k = pick (ltb k 56) (part_from w 16 k) (pick (ltb k 112) (part_from w 32 (k - 56)) (average_at w (k - 112)))

-- the list starts with all shared numbers
abbrev pub Shared : (ℕ → ℕ) → List ℤ → Type 0
Shared w list = Each (λ k z. z ≡ shared_at w k) (pos 0) list shared_count

-- a bound of average + row + column, from the word with the scales and the word of the average: `mag` is below it for any coefficients of rows and
-- columns, since a signed nibble is from -8 to 7
abbrev pub base_bound : ℕ → ℕ → ℕ
base_bound scales average = mag (signed 16 average) + 1 + 8 * 2 ^ row_scale scales + 8 * 2 ^ column_scale scales
