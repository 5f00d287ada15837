-- The MLX90640's record as C has it, with its gradient as a flag and a coefficient, and back. Assumes nothing.
use Rattle.std.specs.Prelude.{[], ◌∷◌}
use Rattle.record640.specs.declared.Calibration.{Calibration}
use Rattle.capi_record.specs.Record.{gradient_out, gradient_in}
use Rattle.capi_record640.specs.declared.Record640.{Record640}

-- the record as C has it
abbrev pub record_out : Calibration → Record640
record_out c = record {
  k_v_ptat = c.k_v_ptat;
  k_t_ptat = c.k_t_ptat;
  v_ptat_25 = c.v_ptat_25;
  alpha_ptat = c.alpha_ptat;
  gain = c.gain;
  k_s_ta = c.k_s_ta;
  k_v_cp = c.k_v_cp;
  k_ta_cp = c.k_ta_cp;
  gradient = (gradient_out c.temperature_gradient_coefficient).coefficient;
  access_cp = c.access_cp;
  alpha_cp = c.alpha_cp;
  k_s_to = c.k_s_to;
  range_coefficients = c.range_coefficients;
  k_v = c.k_v;
  access_pattern = c.access_pattern;
  corner_temperatures = c.corner_temperatures;
  offset_reference_cp = c.offset_reference_cp;
  k_v_dd = c.k_v_dd;
  v_dd_25 = c.v_dd_25;
  resolution = c.resolution;
  has_gradient = (gradient_out c.temperature_gradient_coefficient).has;
  unused = 0 ∷ 0 ∷ [];
}

-- the record from C's
abbrev pub record_in : Record640 → Calibration
record_in c = record {
  k_v_dd = c.k_v_dd;
  v_dd_25 = c.v_dd_25;
  resolution = c.resolution;
  k_v_ptat = c.k_v_ptat;
  k_t_ptat = c.k_t_ptat;
  v_ptat_25 = c.v_ptat_25;
  alpha_ptat = c.alpha_ptat;
  gain = c.gain;
  k_s_ta = c.k_s_ta;
  corner_temperatures = c.corner_temperatures;
  k_s_to = c.k_s_to;
  range_coefficients = c.range_coefficients;
  alpha_cp = c.alpha_cp;
  offset_reference_cp = c.offset_reference_cp;
  k_v_cp = c.k_v_cp;
  k_ta_cp = c.k_ta_cp;
  temperature_gradient_coefficient = gradient_in c.has_gradient c.gradient;
  k_v = c.k_v;
  access_pattern = c.access_pattern;
  access_cp = c.access_cp;
}
