-- The calibration record: document 01's map, words 34 to 63, field by field. `w` gives the data of a word by its number; `b` is the basic range, at
-- which the range coefficients of document 02, CR 9, are 1. `word_of` is the map's, `signed` takes a width, `combined` an upper and a lower word, and
-- `over` divides by a power of two. Assumes nothing.
use Rattle.std.specs.Prelude.{ℕ, ◌/◌, ◌%◌, ◌^◌, [], ◌∷◌, ℤ, pos, ◌*ℤ◌, replicate, Float, Some, None}
use Rattle.floats.specs.Floats.{real, over}
use Rattle.floats.specs.Constants.{plus_zero}
use Rattle.util.specs.Fields.{minus, signed, combined}
use Rattle.map.specs.declared.Field.{Field}
use Rattle.map.specs.declared.Field.TheVariants.{KSTa, Emissivity, Gain, VDd25, KVDd, VPtat25, KTPtat, KVPtat, AlphaPtat, AlphaCp, AlphaCpScale, OffsetCp, KTaCp, KVCp, Gradient, KSToScale, KSTo, Corner}
use Rattle.map.specs.Map.{word_of}
use Rattle.calibration.specs.declared.Calibration.{Calibration}
use Rattle.calibration.specs.declared.Ranges.{Ranges}
use Rattle.calibration.specs.Coefficients.{range_count, coefficients_of}

-- the data of a field of one word
abbrev pub single : (ℕ → ℕ) → Field → ℕ
single w field = w (word_of field 0)

-- the data of a field of two words, combined
abbrev pub double : (ℕ → ℕ) → Field → ℕ
double w field = combined (w (word_of field 0)) (w (word_of field 1))

-- the low `width` bits of n, signed, divided by 2 to the power given by the bits above them
abbrev pub low_over : ℕ → ℕ → Float
low_over width n = over (signed width n) (n / 2 ^ width)

-- the resolution: bits 9 and 10
abbrev pub resolution_of : ℕ → ℕ
resolution_of n = n / 512 % 4

-- K_sTo of range k: signed, divided by 2 to the power in word 52
abbrev pub k_s_to : (ℕ → ℕ) → ℕ → Float
k_s_to w k = over (signed 11 (w (word_of KSTo k))) (single w KSToScale)

-- the k-th corner temperature that the card holds, counted from 0
abbrev pub corner : (ℕ → ℕ) → ℕ → ℤ
corner w k = pos (w (word_of Corner k))

-- corner temperatures and K_sTo of the eight ranges, words 52 to 63
unfoldable pub ranges_of : (ℕ → ℕ) → Ranges
ranges_of w = record {
  k_s_to = k_s_to w 0 ∷ k_s_to w 1 ∷ k_s_to w 2 ∷ k_s_to w 3 ∷ k_s_to w 4 ∷ k_s_to w 5 ∷ k_s_to w 6 ∷ k_s_to w 7 ∷ [];
  corner_temperatures = minus 40 ∷ minus 20 ∷ pos 0 ∷ pos 80 ∷ pos 120 ∷ corner w 0 ∷ corner w 1 ∷ corner w 2 ∷ [];
}

-- the whole record
unfoldable pub calibration_of : (ℕ → ℕ) → ℕ → Calibration
calibration_of w b = record {
  k_s_ta = over (signed 11 (single w KSTa)) 15;
  emissivity = over (signed 11 (single w Emissivity)) 9;
  gain = real (pos (double w Gain));
  v_dd_25 = signed 11 (single w VDd25) *ℤ pos 32;
  k_v_dd = signed 11 (single w KVDd) *ℤ pos 32;
  v_ptat_25 = real (pos (double w VPtat25));
  k_t_ptat = over (signed 11 (single w KTPtat)) 3;
  k_v_ptat = over (signed 11 (single w KVPtat)) 12;
  alpha_ptat = over (pos (single w AlphaPtat)) 7;
  alpha_cp = over (pos (single w AlphaCp)) (single w AlphaCpScale);
  offset_reference_cp = signed 16 (double w OffsetCp);
  k_ta_cp = low_over 6 (single w KTaCp);
  k_v_cp = low_over 6 (single w KVCp);
  resolution = resolution_of (single w Gradient);
  temperature_gradient_coefficient = Some (over (signed 9 (single w Gradient)) 6);
  k_s_to = (ranges_of w).k_s_to;
  corner_temperatures = (ranges_of w).corner_temperatures;
  range_coefficients = coefficients_of (ranges_of w) b;
}

-- the record that C gets after a refused load: every number 0, and no gradient
unfoldable pub no_calibration : Calibration
no_calibration = record {
  k_s_ta = plus_zero;
  emissivity = plus_zero;
  gain = plus_zero;
  v_dd_25 = pos 0;
  k_v_dd = pos 0;
  v_ptat_25 = plus_zero;
  k_t_ptat = plus_zero;
  k_v_ptat = plus_zero;
  alpha_ptat = plus_zero;
  alpha_cp = plus_zero;
  offset_reference_cp = pos 0;
  k_ta_cp = plus_zero;
  k_v_cp = plus_zero;
  resolution = 0;
  temperature_gradient_coefficient = None;
  k_s_to = replicate range_count plus_zero;
  corner_temperatures = replicate range_count (pos 0);
  range_coefficients = replicate range_count plus_zero;
}
