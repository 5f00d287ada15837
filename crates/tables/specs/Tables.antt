-- Document 01: alpha = (raw / 2047) × (row maximum / 2^row scale), 32 pixels to a row, and K = (raw × 2^scale2 + average) / 2^scale1. `w` gives the
-- data of a word by its number; `word_of` is the map's. Each float step is rounded once. Assumes nothing.
use Rattle.std.specs.Prelude.{ℕ, ◌+◌, ◌/◌, ◌%◌, ◌^◌, eqb, ℤ, pos, Float}
use Rattle.lists.specs.Pick.{pick}
use Rattle.floats.specs.Floats.{◌⊕◌, ◌⊗◌, ◌⊘◌, real, power_of_two, over}
use Rattle.floats.specs.Constants.{alpha_full}
use Rattle.util.specs.Fields.{signed}
use Rattle.map.specs.declared.Field.{Field}
use Rattle.map.specs.declared.Field.TheVariants.{RowScale, RowMaximum, Alpha, KTaAverage, KTaScale, KVAverage, KVScale, KPixel}
use Rattle.map.specs.Map.{word_of}
use Rattle.tables.specs.declared.K.{K}
use Rattle.tables.specs.declared.K.TheVariants.{KTa, KV}

-- ---- alpha

-- the number of pixels of a row
abbrev pub row_pixels : ℕ
row_pixels = 32

-- the scale of a row, plus 20: the upper 6 bits of its word for an even row, the lower 5 for an odd one
abbrev pub row_scale : (ℕ → ℕ) → ℕ → ℕ
row_scale w row = pick (eqb (row % 2) 0) (w (word_of RowScale (row / 2)) / 2 ^ 5) (w (word_of RowScale (row / 2)) % 2 ^ 5) + 20

-- the reference of a row: row maximum / 2^row scale
unfoldable pub reference : (ℕ → ℕ) → ℕ → Float
reference w row = over (pos (w (word_of RowMaximum row))) (row_scale w row)

-- alpha of pixel i
unfoldable pub alpha_at : (ℕ → ℕ) → ℕ → Float
alpha_at w i = real (pos (w (word_of Alpha i))) ⊘ alpha_full ⊗ reference w (i / row_pixels)

-- ---- K_Ta and K_V

-- the field of a coefficient's average
abbrev pub average_field : K → Field
average_field KTa = KTaAverage
average_field KV = KVAverage

-- the field of a coefficient's two scales
abbrev pub scale_field : K → Field
scale_field KTa = KTaScale
scale_field KV = KVScale

-- the average of a coefficient, 11 bits signed
abbrev pub average : (ℕ → ℕ) → K → Float
average w k = real (signed 11 (w (word_of (average_field k) 0)))

-- scale 1 of a coefficient: the upper 6 bits of the word
abbrev pub scale1 : (ℕ → ℕ) → K → ℕ
scale1 w k = w (word_of (scale_field k) 0) / 2 ^ 5

-- scale 2: its lower 5 bits
abbrev pub scale2 : (ℕ → ℕ) → K → ℕ
scale2 w k = w (word_of (scale_field k) 0) % 2 ^ 5

-- the raw coefficient in a pixel's word: the upper 6 bits signed for K_Ta, the lower 5 bits signed for K_V
abbrev pub raw_of : K → ℕ → ℤ
raw_of KTa n = signed 6 (n / 2 ^ 5)
raw_of KV n = signed 5 n

-- the coefficient k of pixel i
unfoldable pub k_at : (ℕ → ℕ) → K → ℕ → Float
k_at w k i = (real (raw_of k (w (word_of KPixel i))) ⊗ power_of_two (scale2 w k) ⊕ average w k) ⊘ power_of_two (scale1 w k)
