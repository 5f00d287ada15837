-- The MLX90641's frame calls, as instances of any camera's: 192 pixels and 8 ranges, the offsets of the chosen subpage, and access terms of 0. What they do
-- is in frames/specs. Assumes nothing.
use Rattle.std.specs.Prelude.{min, List, ℕ, ℤ, pos, get_or, length, Float}
use Rattle.std.specs.Float.{nan}
use Rattle.floats.specs.Floats.{real}
use Rattle.floats.specs.Constants.{plus_zero}
use Rattle.map.specs.Map.{frame_pixels}
use Rattle.calibration.specs.declared.Calibration.{Calibration}
use Rattle.calibration.specs.Coefficients.{range_count}
use Rattle.eeprom.specs.Parts.{offsets_of}
use Rattle.formulas.specs.declared.Constants.{Constants}
use Rattle.formulas.specs.declared.Settings.{Settings}
use Rattle.frames.specs.Frames.{IrCall, ToCall, PassCall, Ranges}
use Rattle.calculations.specs.declared.Input.{Input}

-- the record's values that the formulas use, the same for both subpages
abbrev pub constants_of : Calibration → Constants
constants_of c = record {
  k_v_dd = c.k_v_dd;
  v_dd_25 = c.v_dd_25;
  k_v_ptat = c.k_v_ptat;
  k_t_ptat = c.k_t_ptat;
  v_ptat_25 = c.v_ptat_25;
  alpha_ptat = c.alpha_ptat;
  gain = c.gain;
  k_s_ta = c.k_s_ta;
  alpha_cp = c.alpha_cp;
  offset_reference_cp = c.offset_reference_cp;
  k_v_cp = c.k_v_cp;
  k_ta_cp = c.k_ta_cp;
  temperature_gradient_coefficient = c.temperature_gradient_coefficient;
}

-- the record's ranges
abbrev pub ranges_of : Calibration → Ranges
ranges_of c = record { count = range_count; corners = c.corner_temperatures; k_s_to = c.k_s_to; coefficients = c.range_coefficients }

-- the arguments of pixels to infrared, with the compensation reading to use
abbrev pub ir_call : Calibration → Input → Float → List ℤ → List ℤ → List Float → List Float → List ℕ → List ℕ → IrCall
ir_call c f compensation o0 o1 v t p m = record {
  size = frame_pixels;
  constants = constants_of c;
  settings = f.settings;
  ram = f.ram;
  compensation = compensation;
  access_cp = plus_zero;
  table = min (min (length o0) (length o1)) (min (length v) (length t));
  offset = λ k. real (get_or (offsets_of o0 o1 f.subpage) k (pos 0));
  k_v = λ k. get_or v k nan;
  k_ta = λ k. get_or t k nan;
  access = λ k. plus_zero;
  pixels = p;
  mask = m;
}

-- the arguments of infrared to temperature
abbrev pub to_call : Calibration → Settings → Float → List Float → List ℕ → ToCall
to_call c s t_a alpha m = record { size = frame_pixels; ranges = ranges_of c; constants = constants_of c; settings = s; ambient = t_a; alpha = alpha; mask = m }

-- the arguments of one pass and of the second pass
abbrev pub pass_call : Calibration → IrCall → List Float → PassCall
pass_call c ir alpha = record { ir = ir; ranges = ranges_of c; alpha = alpha }
