-- Document 01: pixel offset = average + raw × 2^scale. `w` gives the data of a word by its number; `word_of` is the map's.
-- Assumes nothing.
use Rattle.std.specs.Prelude.{ℕ, ◌-◌, ◌*◌, ◌/◌, ◌^◌, ltb, ℤ, pos, ◌+ℤ◌, ◌*ℤ◌}
use Rattle.lists.specs.Pick.{pick}
use Rattle.util.specs.Fields.{signed, combined}
use Rattle.map.specs.declared.Field.TheVariants.{OffsetScale, OffsetAverage, Offset0, Offset1}
use Rattle.map.specs.Map.{frame_pixels, word_of}

-- the number of accepted scales: 0 to 20 (document 02, CR 10)
abbrev pub scales : ℕ
scales = 21

-- the offset scale: the upper 6 bits of its word
unfoldable pub offset_scale : (ℕ → ℕ) → ℕ
offset_scale w = w (word_of OffsetScale 0) / 2 ^ 5

-- the offset average from its two words: the combined word, 16 bits signed (document 02, CR 4)
unfoldable pub offset_average : ℕ → ℕ → ℤ
offset_average upper lower = signed 16 (combined upper lower)

-- the offset average of a card
unfoldable pub average_of : (ℕ → ℕ) → ℤ
average_of w = offset_average (w (word_of OffsetAverage 0)) (w (word_of OffsetAverage 1))

-- the number of entries. Entry 192 × subpage + pixel: first the pixels of subpage 0, then those of subpage 1.
abbrev pub entries : ℕ
entries = 2 * frame_pixels

-- the number of the word of an entry
abbrev pub entry_word : ℕ → ℕ
entry_word entry = pick (ltb entry frame_pixels) (word_of Offset0 entry) (word_of Offset1 (entry - frame_pixels))

-- raw × 2^scale, where the raw offset is a signed number of 11 bits
unfoldable pub product_of : ℕ → ℕ → ℤ
product_of raw scale = signed 11 raw *ℤ pos (2 ^ scale)

-- raw × 2^scale of an entry
unfoldable pub product_at : (ℕ → ℕ) → ℕ → ℤ
product_at w entry = product_of (w (entry_word entry)) (offset_scale w)

-- the offset of an entry
unfoldable pub offset_at : (ℕ → ℕ) → ℕ → ℤ
offset_at w entry = average_of w +ℤ product_at w entry
