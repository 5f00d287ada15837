-- Which pixels a frame writes, the bits of each, and how many are lost. Assumes nothing.
use Rattle.std.specs.Prelude.{ℕ, Bool, not, ◌&&◌, List, eqb, get_or, Float}
use Rattle.std.specs.Float.{binary32}
use Rattle.std.specs.Float.Ieee.{to_bits, of_bits}
use Rattle.lists.specs.Written.{written}
use Rattle.lists.specs.Count.{count_below}
use Rattle.floats.specs.Floats.{real}
use Rattle.floats.specs.Constants.{pattern}
use Rattle.util.specs.Words.{word_at}
use Rattle.util.specs.Fields.{signed}
use Rattle.formulas.specs.declared.Pixel.{Pixel}
use Rattle.formulas.specs.declared.Pixel.TheVariants.{Temperature, Lost}
use Rattle.formulas.specs.Pixel.{answer_of}

-- whether the mask asks for pixel i: its mask byte is not 0
unfoldable pub touched : List ℕ → ℕ → Bool
touched mask i = not (eqb (get_or mask i 0) 0)

-- the reading of pixel i: 16 bits, signed, big-endian
unfoldable pub reading_at : List ℕ → ℕ → Float
reading_at pixels i = real (signed 16 (word_at pixels i))

-- the number whose bits are entry k
abbrev pub held : List ℕ → ℕ → Float
held d k = of_bits binary32 (get_or d k 0)

-- ---- the bits of pixel k

-- the bits of its infrared number; a NaN has the NaN pattern
abbrev pub infrared_bits : (ℕ → Float) → ℕ → ℕ
infrared_bits v k = to_bits binary32 (v k)

-- the bits of a temperature; the NaN pattern for a pixel that has none
abbrev pub answer_bits : Pixel → ℕ
answer_bits (Temperature t) = to_bits binary32 t
answer_bits (Lost v) = pattern

-- the bits of its temperature, from its final value and its infrared number
abbrev pub temperature_bits : (ℕ → Float) → (ℕ → Float) → ℕ → ℕ
temperature_bits X v k = answer_bits (answer_of (X k) (v k))

-- ---- over the first n pixels

-- the destination after they are written
abbrev pub into : ℕ → List ℕ → (ℕ → ℕ) → List ℕ → List ℕ
into n mask bits d = written (touched mask) bits n d

-- the number of pixels written as the NaN pattern
abbrev pub lost_of : ℕ → List ℕ → (ℕ → ℕ) → ℕ
lost_of n mask bits = count_below (λ (k : ℕ). touched mask k && eqb (bits k) pattern) n
