-- The MLX90640's paper, "When the gate says stop": what stops a load, lowest number first, and what a load leaves. `word_at image` are a card's words.
-- Assumes nothing.
use Rattle.std.specs.Prelude.{ℕ, min, ◌≡◌, List, [], ◌∷◌, leb, ltb, ℤ, length, Float, ⊤, Result}
use Rattle.lists.specs.Written.{filled}
use Rattle.refusal.specs.declared.Refusal.TheVariants.{ShortImage, ShortTable, LargePixel, BasicRange, ZeroFactor}
use Rattle.refusal.specs.declared.Refusal.{Refusal}
use Rattle.refusal.specs.Refusal.{unless, giving}
use Rattle.refusal.specs.Order.{Test, ◌refuses◌, first_of}
use Rattle.util.specs.Words.{word_at}
use Rattle.ranges.specs.Coefficients.{zero_factor}
use Rattle.sums640.specs.Sums.{pixel_count, offset_at, alpha_at, k_ta_at, first_outside}
use Rattle.record640.specs.Record.{corners_at, k_s_tos, calibration_of}
use Rattle.record640.specs.declared.Calibration.{Calibration}

abbrev pub image_bytes : ℕ
image_bytes = 1664

abbrev pub range_count : ℕ
range_count = 4

-- ---- the three tables

pub record Tables : Type 0 where
  pub offsets : List ℤ
  pub alpha : List Float
  pub k_ta : List Float

abbrev pub tables : List ℤ → List Float → List Float → Tables
tables o a t = record { offsets = o; alpha = a; k_ta = t }

-- the length of the shortest
abbrev pub shortest : Tables → ℕ
shortest t = min (length t.offsets) (min (length t.alpha) (length t.k_ta))

-- the first 768 entries of each; the others stay
unfoldable pub filled_tables : (ℕ → ℕ) → Tables → Tables
filled_tables w t = tables (filled (offset_at w) pixel_count t.offsets) (filled (alpha_at w) pixel_count t.alpha) (filled (k_ta_at w) pixel_count t.k_ta)

-- ---- the tests, in order

abbrev pub zero_range : (ℕ → ℕ) → ℕ → ℕ
zero_range w range = zero_factor range_count (corners_at w) (k_s_tos w) range

-- of the words and the basic range
unfoldable pub data_tests : (ℕ → ℕ) → ℕ → List Test
data_tests w range =
    ltb (first_outside w) pixel_count refuses LargePixel (first_outside w)
    ∷ leb range_count range refuses BasicRange range
    ∷ ltb (zero_range w range) range_count refuses ZeroFactor (zero_range w range)
    ∷ []

-- of an image, the basic range and the length of the shortest table
unfoldable pub load_tests : List ℕ → ℕ → ℕ → List Test
load_tests image range table =
    ltb (length image) image_bytes refuses ShortImage (length image)
    ∷ ltb table pixel_count refuses ShortTable
    ∷ data_tests (word_at image) range

abbrev pub load_verdict : List ℕ → ℕ → Tables → Result ⊤ Refusal
load_verdict image range t = first_of (load_tests image range (shortest t))

-- ---- the promise

-- what a load says of its image, the basic range, the tables before and after, and its answer
pub record Loads (image : List ℕ) (range : ℕ) (before after : Tables) (r : Result Calibration Refusal) : Type 0 where
  pub answer : r ≡ giving (load_verdict image range before) (calibration_of (word_at image) range)
  pub lent : after ≡ unless (load_verdict image range before) (filled_tables (word_at image) before) before
