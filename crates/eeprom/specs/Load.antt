-- Document 01, with refusals 6 and 13 of document 02: what stops a load, lowest number first, and what a load returns and writes. Assumes nothing.
use Rattle.std.specs.Prelude.{ℕ, min, ◌+◌, ◌*◌, ◌≡◌, List, [], ◌∷◌, leb, ltb, ℤ, length, Float, ⊤, Result}
use Rattle.lists.specs.Written.{filled}
use Rattle.refusal.specs.declared.Refusal.{Refusal}
use Rattle.refusal.specs.declared.Refusal.TheVariants.{ShortImage, ShortTable, DamagedWord, LargeScale, BasicRange, ZeroFactor}
use Rattle.refusal.specs.Refusal.{unless}
pub use Rattle.refusal.specs.Refusal.{giving}
use Rattle.refusal.specs.Order.{Test, ◌refuses◌, first_of}
use Rattle.util.specs.Words.{word_at}
use Rattle.map.specs.Map.{card_words, image_bytes, frame_pixels}
use Rattle.card.specs.Card.{data_at, first_damaged, mending_of}
use Rattle.offsets.specs.Offsets.{scales, offset_scale, offset_at}
use Rattle.tables.specs.declared.K.TheVariants.{KTa, KV}
use Rattle.tables.specs.Tables.{alpha_at, k_at}
use Rattle.calibration.specs.Calibration.{ranges_of, calibration_of}
use Rattle.calibration.specs.Coefficients.{range_count, zero_factor}
use Rattle.eeprom.specs.declared.Loaded.{Loaded}

-- ---- the five tables

-- the contents of the five tables
pub record Tables : Type 0 where
  pub offsets0 : List ℤ
  pub offsets1 : List ℤ
  pub alpha : List Float
  pub k_v : List Float
  pub k_ta : List Float

-- five lists as `Tables`: offsets of subpage 0 and 1, alpha, K_V, K_Ta
abbrev pub tables : List ℤ → List ℤ → List Float → List Float → List Float → Tables
tables o0 o1 a v t = record { offsets0 = o0; offsets1 = o1; alpha = a; k_v = v; k_ta = t }

-- the length of the shortest table
abbrev pub shortest : Tables → ℕ
shortest t = min (min (length t.offsets0) (length t.offsets1)) (min (length t.alpha) (min (length t.k_v) (length t.k_ta)))

-- a table with the offsets of a subpage in its first 192 entries; the others stay
abbrev pub filled_offsets : (ℕ → ℕ) → ℕ → List ℤ → List ℤ
filled_offsets w subpage t = filled (λ (k : ℕ). offset_at w (frame_pixels * subpage + k)) frame_pixels t

-- the five tables with their first 192 entries filled from the data of the words; the others stay
unfoldable pub filled_tables : (ℕ → ℕ) → Tables → Tables
filled_tables w t =
    tables (filled_offsets w 0 t.offsets0) (filled_offsets w 1 t.offsets1)
    (filled (alpha_at w) frame_pixels t.alpha) (filled (k_at w KV) frame_pixels t.k_v) (filled (k_at w KTa) frame_pixels t.k_ta)

-- ---- the tests, in order

-- the tests of the data of the words and the basic range: 4, 6, 13
unfoldable pub data_tests : (ℕ → ℕ) → ℕ → List Test
data_tests w range =
    leb scales (offset_scale w) refuses LargeScale (offset_scale w)
    ∷ leb range_count range refuses BasicRange range
    ∷ ltb (zero_factor (ranges_of w) range) range_count refuses ZeroFactor (zero_factor (ranges_of w) range)
    ∷ []

-- all tests, of an image, the basic range and the length of the shortest table: 1, 2, 3, then those of the data
unfoldable pub load_tests : List ℕ → ℕ → ℕ → List Test
load_tests image range table =
    ltb (length image) image_bytes refuses ShortImage (length image)
    ∷ ltb table frame_pixels refuses ShortTable
    ∷ ltb (first_damaged image) card_words refuses DamagedWord (first_damaged image) (word_at image (first_damaged image))
    ∷ data_tests (data_at image) range

-- the verdict of a load
abbrev pub load_verdict : List ℕ → ℕ → Tables → Result ⊤ Refusal
load_verdict image range t = first_of (load_tests image range (shortest t))

-- ---- the contract

-- what a load of this image with this basic range returns if it is not refused
abbrev pub loaded : List ℕ → ℕ → Loaded
loaded image range = record { calibration = calibration_of (data_at image) range; mending = mending_of image }

-- the contract of a load: its image, the basic range, the tables before and after, and its result r
pub record Loads (image : List ℕ) (range : ℕ) (before after : Tables) (r : Result Loaded Refusal) : Type 0 where
  pub result : r ≡ giving (load_verdict image range before) (loaded image range)
  pub lent : after ≡ unless (load_verdict image range before) (filled_tables (data_at image) before) before
