-- Refusal 5: exactly when, and which pixel. Assumes nothing.
use Rattle.std.specs.Prelude.{ℕ, ◌<◌, ◌≤◌, ◌≡◌, true, false}
use Rattle.util.specs.Fields.{in_i16}
use Rattle.sums640.specs.Sums.{pixel_count, offset_at, alpha_base_at, alpha_rest_at, k_ta_sum_at, outside_at, first_outside}

-- a pixel whose four whole numbers are inside i16
pub record Inside (w : ℕ → ℕ) (pixel : ℕ) : Type 0 where
  pub offset : in_i16 (offset_at w pixel) ≡ true
  pub alpha_base : in_i16 (alpha_base_at w pixel) ≡ true
  pub alpha_rest : in_i16 (alpha_rest_at w pixel) ≡ true
  pub k_ta_sum : in_i16 (k_ta_sum_at w pixel) ≡ true

-- a pixel is outside exactly where they are not all inside
pub record Judged (w : ℕ → ℕ) (pixel : ℕ) : Type 0 where
  pub inside : outside_at w pixel ≡ false → Inside w pixel
  pub outside : outside_at w pixel ≡ true → Inside w pixel → ⊥

-- 768 exactly where no pixel is outside; below 768 it is one that is, and the first
pub record FirstIs (w : ℕ → ℕ) : Type 0 where
  pub none : first_outside w ≡ pixel_count → (pixel : ℕ) → pixel < pixel_count → outside_at w pixel ≡ false
  pub only : ((pixel : ℕ) → pixel < pixel_count → outside_at w pixel ≡ false) → first_outside w ≡ pixel_count
  pub within : first_outside w ≤ pixel_count
  pub at : first_outside w < pixel_count → outside_at w (first_outside w) ≡ true
  pub before : (pixel : ℕ) → pixel < first_outside w → outside_at w pixel ≡ false
