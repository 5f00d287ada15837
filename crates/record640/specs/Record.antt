-- The MLX90640's paper, "Record and tables": the numbers of words 48 to 63, and alpha_PTAT of word 16, over `w`, a card's words by their numbers;
-- `word_of` is the map's. Assumes nothing.
use Rattle.std.specs.Prelude.{ℕ, ◌+◌, ◌*◌, ◌/◌, ◌%◌, ◌^◌, List, [], ◌∷◌, eqb, Float, replicate, ℤ, pos, ◌+ℤ◌, ◌-ℤ◌, ◌*ℤ◌, Option, Some, None}
use Rattle.lists.specs.Pick.{pick}
use Rattle.floats.specs.Constants.{one, plus_zero}
use Rattle.floats.specs.Floats.{real, over, ◌⊕◌, ◌⊗◌}
use Rattle.util.specs.Fields.{signed, minus}
use Rattle.map640.specs.declared.Field.{Field}
use Rattle.map640.specs.declared.Field.TheVariants.{OffsetScales, AlphaScales, Gain, VPtat25, Ptat, VDd, KV, Access, Scales, AlphaCp, OffsetCp, KCp, KSTa, KSTo, Corners}
use Rattle.map640.specs.Map.{word_of}
use Rattle.mlx90640.specs.Corrections.{corrections_of, pattern_of}
use Rattle.ranges.specs.Coefficients.{coefficient_at}
use Rattle.record640.specs.declared.Calibration.{Calibration}

abbrev word : (ℕ → ℕ) → Field → ℕ
word w field = w (word_of field 0)

-- ---- supply and ambient temperature

-- the upper 8 bits, signed, times 32
unfoldable pub k_v_dd_of : ℕ → ℤ
k_v_dd_of n = signed 8 (n / 2 ^ 8) *ℤ pos 32

-- the lower 8 bits b: (b - 256) × 32 - 8192
unfoldable pub v_dd25_of : ℕ → ℤ
v_dd25_of n = (pos (n % 2 ^ 8) -ℤ pos 256) *ℤ pos 32 -ℤ pos 8192

unfoldable pub k_v_ptat : (ℕ → ℕ) → Float
k_v_ptat w = over (signed 6 (word w Ptat / 2 ^ 10)) 12

unfoldable pub k_t_ptat : (ℕ → ℕ) → Float
k_t_ptat w = over (signed 10 (word w Ptat)) 3

-- the nibble over 4, rounded down, and 8
unfoldable pub alpha_ptat_of : ℕ → Float
alpha_ptat_of n = real (pos (n / 2 ^ 12 / 4 + 8))

unfoldable pub whole_of : ℕ → Float
whole_of n = real (signed 16 n)

-- ---- scales

unfoldable pub resolution_of : ℕ → ℕ
resolution_of n = n / 2 ^ 12 % 4

abbrev pub k_v_scale : (ℕ → ℕ) → ℕ
k_v_scale w = word w Scales / 2 ^ 8 % 16

abbrev pub k_ta_scale : (ℕ → ℕ) → ℕ
k_ta_scale w = 8 + word w Scales / 2 ^ 4 % 16

-- ---- pixels and the compensation pixel

-- four signed nibbles from the top: the chessboard
unfoldable pub k_vs : (ℕ → ℕ) → List Float
k_vs w =
    let n = word w KV in
    over (signed 4 (n / 2 ^ 12)) (k_v_scale w) ∷ over (signed 4 (n / 2 ^ 8)) (k_v_scale w) ∷ over (signed 4 (n / 2 ^ 4)) (k_v_scale w) ∷ over (signed 4 n) (k_v_scale w) ∷ []

unfoldable pub k_v_cp : (ℕ → ℕ) → Float
k_v_cp w = over (signed 8 (word w KCp / 2 ^ 8)) (k_v_scale w)

unfoldable pub k_ta_cp : (ℕ → ℕ) → Float
k_ta_cp w = over (signed 8 (word w KCp)) (k_ta_scale w)

-- of subpage 0: the lower 10 bits, unsigned, over 2 ^ (27 + alpha's scale); of subpage 1: that times 1 + ratio
unfoldable pub alpha_cp0 : (ℕ → ℕ) → Float
alpha_cp0 w = over (pos (word w AlphaCp % 2 ^ 10)) (27 + word w AlphaScales / 2 ^ 12)

unfoldable pub alpha_cps : (ℕ → ℕ) → List Float
alpha_cps w = alpha_cp0 w ∷ (alpha_cp0 w ⊗ (one ⊕ over (signed 6 (word w AlphaCp / 2 ^ 10)) 7)) ∷ []

-- of subpage 0: the lower 10 bits, signed; of subpage 1: that and delta, the upper 6
unfoldable pub offset_cps_of : ℕ → List ℤ
offset_cps_of n = signed 10 n ∷ (signed 10 n +ℤ signed 6 (n / 2 ^ 10)) ∷ []

unfoldable pub k_s_ta : (ℕ → ℕ) → Float
k_s_ta w = over (signed 8 (word w KSTa / 2 ^ 8)) 13

-- none where the byte is 0
unfoldable pub gradient_of : ℕ → Option Float
gradient_of n = pick (eqb (n % 2 ^ 8) 0) None (Some (over (signed 8 n) 5))

-- ---- ranges

-- range 0 is the lower byte of the first word, 1 its upper, 2 and 3 those of the second
unfoldable pub k_s_tos : (ℕ → ℕ) → List Float
k_s_tos w =
    let scale = 8 + word w Corners % 16 in
    let second = w (word_of KSTo 1) in
    over (signed 8 (word w KSTo)) scale ∷ over (signed 8 (word w KSTo / 2 ^ 8)) scale ∷ over (signed 8 second) scale ∷ over (signed 8 (second / 2 ^ 8)) scale ∷ []

-- the step is a multiple of ten; corner 2 is so many steps, corner 3 so many more
abbrev pub step_of : ℕ → ℕ
step_of n = n / 2 ^ 12 % 4 * 10

unfoldable pub corners_of : ℕ → List ℤ
corners_of n =
    let second = n / 2 ^ 4 % 16 * step_of n in
    minus 40 ∷ pos 0 ∷ pos second ∷ pos (n / 2 ^ 8 % 16 * step_of n + second) ∷ []

unfoldable pub corners_at : (ℕ → ℕ) → List ℤ
corners_at w = corners_of (word w Corners)

-- those of any camera, over four ranges
unfoldable pub coefficients_of : (ℕ → ℕ) → ℕ → List Float
coefficients_of w b =
    let at : ℕ → Float = coefficient_at (corners_at w) (k_s_tos w) b in
    at 0 ∷ at 1 ∷ at 2 ∷ at 3 ∷ []

-- ---- the record

unfoldable pub calibration_of : (ℕ → ℕ) → ℕ → Calibration
calibration_of w b = record {
  k_v_dd = k_v_dd_of (word w VDd);
  v_dd_25 = v_dd25_of (word w VDd);
  resolution = resolution_of (word w Scales);
  k_v_ptat = k_v_ptat w;
  k_t_ptat = k_t_ptat w;
  v_ptat_25 = whole_of (word w VPtat25);
  alpha_ptat = alpha_ptat_of (word w OffsetScales);
  gain = whole_of (word w Gain);
  k_s_ta = k_s_ta w;
  corner_temperatures = corners_at w;
  k_s_to = k_s_tos w;
  range_coefficients = coefficients_of w b;
  alpha_cp = alpha_cps w;
  offset_reference_cp = offset_cps_of (word w OffsetCp);
  k_v_cp = k_v_cp w;
  k_ta_cp = k_ta_cp w;
  temperature_gradient_coefficient = gradient_of (word w KSTa);
  k_v = k_vs w;
  access_pattern = pattern_of (corrections_of (word w Access));
  access_cp = (corrections_of (word w Access)).chess_1;
}

-- the record of a refusal: every number 0, and no gradient
unfoldable pub no_calibration : Calibration
no_calibration = record {
  k_v_dd = pos 0;
  v_dd_25 = pos 0;
  resolution = 0;
  k_v_ptat = plus_zero;
  k_t_ptat = plus_zero;
  v_ptat_25 = plus_zero;
  alpha_ptat = plus_zero;
  gain = plus_zero;
  k_s_ta = plus_zero;
  corner_temperatures = replicate 4 (pos 0);
  k_s_to = replicate 4 plus_zero;
  range_coefficients = replicate 4 plus_zero;
  alpha_cp = replicate 2 plus_zero;
  offset_reference_cp = replicate 2 (pos 0);
  k_v_cp = plus_zero;
  k_ta_cp = plus_zero;
  temperature_gradient_coefficient = None;
  k_v = replicate 4 plus_zero;
  access_pattern = replicate 6 plus_zero;
  access_cp = plus_zero;
}
