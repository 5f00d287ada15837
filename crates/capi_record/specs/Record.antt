-- The record as C has it, with its gradient as a flag and a coefficient, and back; and the subpage of a number. Assumes nothing.
use Rattle.std.specs.Prelude.{ℕ, eqb, Float, Option, Some, None}
use Rattle.floats.specs.Constants.{plus_zero}
use Rattle.lists.specs.Pick.{pick}
use Rattle.calibration.specs.declared.Calibration.{Calibration}
use Rattle.camera.specs.declared.Subpage.{Subpage}
use Rattle.camera.specs.declared.Subpage.TheVariants.{Zero, One}
use Rattle.capi_record.specs.declared.Record.{Record}
use Rattle.capi_record.specs.declared.Flagged.{Flagged}

-- the gradient as C has it: no gradient is the flag 0 and the coefficient +0
abbrev pub gradient_out : Option Float → Flagged
gradient_out (Some g) = record { has = 1; coefficient = g }
gradient_out None = record { has = 0; coefficient = plus_zero }

-- the record as C has it
abbrev pub record_out : Calibration → Record
record_out c = record {
  k_v_ptat = c.k_v_ptat;
  k_t_ptat = c.k_t_ptat;
  v_ptat_25 = c.v_ptat_25;
  alpha_ptat = c.alpha_ptat;
  gain = c.gain;
  k_s_ta = c.k_s_ta;
  emissivity = c.emissivity;
  alpha_cp = c.alpha_cp;
  k_v_cp = c.k_v_cp;
  k_ta_cp = c.k_ta_cp;
  gradient = (gradient_out c.temperature_gradient_coefficient).coefficient;
  k_s_to = c.k_s_to;
  corner_temperatures = c.corner_temperatures;
  k_v_dd = c.k_v_dd;
  v_dd_25 = c.v_dd_25;
  offset_reference_cp = c.offset_reference_cp;
  resolution = c.resolution;
  has_gradient = (gradient_out c.temperature_gradient_coefficient).has;
  range_coefficients = c.range_coefficients;
}

-- the gradient from C's: the flag 0 is no gradient
abbrev pub gradient_in : ℕ → Float → Option Float
gradient_in has g = pick (eqb has 0) None (Some g)

-- the record from C's
abbrev pub record_in : Record → Calibration
record_in c = record {
  k_v_dd = c.k_v_dd;
  v_dd_25 = c.v_dd_25;
  resolution = c.resolution;
  k_v_ptat = c.k_v_ptat;
  k_t_ptat = c.k_t_ptat;
  v_ptat_25 = c.v_ptat_25;
  alpha_ptat = c.alpha_ptat;
  gain = c.gain;
  k_s_ta = c.k_s_ta;
  corner_temperatures = c.corner_temperatures;
  k_s_to = c.k_s_to;
  emissivity = c.emissivity;
  alpha_cp = c.alpha_cp;
  offset_reference_cp = c.offset_reference_cp;
  k_v_cp = c.k_v_cp;
  k_ta_cp = c.k_ta_cp;
  temperature_gradient_coefficient = gradient_in c.has_gradient c.gradient;
  range_coefficients = c.range_coefficients;
}

-- the subpage of a number: 0 is the first, any other number the second
abbrev pub subpage_of : ℕ → Subpage
subpage_of n = pick (eqb n 0) Zero One
