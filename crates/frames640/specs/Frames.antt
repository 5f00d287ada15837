-- The MLX90640's paper, "What differs in a frame": its frame calls, as any camera's: 768 pixels and 4 ranges, the compensation pixel's numbers of the
-- subpage, K_V by the chessboard, and access terms. What they say is in frames/specs. Assumes nothing.
use Rattle.std.specs.Prelude.{ℕ, min, List, ℤ, pos, get_or, length, Float}
use Rattle.std.specs.Float.{nan}
use Rattle.floats.specs.Floats.{real}
use Rattle.floats.specs.Constants.{plus_zero}
use Rattle.camera.specs.declared.Subpage.{Subpage}
use Rattle.camera.specs.declared.Subpage.TheVariants.{Zero, One}
use Rattle.formulas.specs.declared.Constants.{Constants}
use Rattle.formulas.specs.declared.Settings.{Settings}
use Rattle.frames.specs.Frames.{IrCall, ToCall, PassCall, Ranges}
use Rattle.record640.specs.declared.Calibration.{Calibration}
use Rattle.rows640.specs.declared.Pattern.{Pattern}
use Rattle.rows640.specs.declared.Pattern.TheVariants.{Chess, Interleave}
use Rattle.rows640.specs.Rows.{k_v_at, access_at}
use Rattle.rows640.specs.Mask.{pixel_count, number_of}
use Rattle.frames640.specs.declared.Input.{Input}

abbrev pub range_count : ℕ
range_count = 4

-- what the formulas read of the record: offset and alpha of the compensation pixel are the subpage's
abbrev pub constants_of : Calibration → Subpage → Constants
constants_of c subpage = record {
  k_v_dd = c.k_v_dd;
  v_dd_25 = c.v_dd_25;
  k_v_ptat = c.k_v_ptat;
  k_t_ptat = c.k_t_ptat;
  v_ptat_25 = c.v_ptat_25;
  alpha_ptat = c.alpha_ptat;
  gain = c.gain;
  k_s_ta = c.k_s_ta;
  alpha_cp = get_or c.alpha_cp (number_of subpage) nan;
  offset_reference_cp = get_or c.offset_reference_cp (number_of subpage) (pos 0);
  k_v_cp = c.k_v_cp;
  k_ta_cp = c.k_ta_cp;
  temperature_gradient_coefficient = c.temperature_gradient_coefficient;
}

-- and its ranges
abbrev pub ranges_of : Calibration → Ranges
ranges_of c = record { count = range_count; corners = c.corner_temperatures; k_s_to = c.k_s_to; coefficients = c.range_coefficients }

-- the compensation pixel's access term: the card's correction in interleave and subpage 1, else 0
abbrev pub access_cp_of : Pattern → Subpage → Float → Float
access_cp_of Chess subpage x = plus_zero
access_cp_of Interleave Zero x = plus_zero
access_cp_of Interleave One x = x

-- pixels to infrared, with what stands for the compensation pixel's reading
abbrev pub ir_call : Calibration → Input → Float → List ℤ → List Float → List ℕ → List ℕ → IrCall
ir_call c f compensation o t p m = record {
  size = pixel_count;
  constants = constants_of c f.subpage;
  settings = f.settings;
  ram = f.ram;
  compensation = compensation;
  access_cp = access_cp_of f.pattern f.subpage c.access_cp;
  table = min (length o) (length t);
  offset = λ k. real (get_or o k (pos 0));
  k_v = k_v_at c.k_v;
  k_ta = λ k. get_or t k nan;
  access = access_at f.pattern c.access_pattern;
  pixels = p;
  mask = m;
}

-- infrared to temperature
abbrev pub to_call : Calibration → Settings → Subpage → Float → List Float → List ℕ → ToCall
to_call c s subpage t_a alpha m = record { size = pixel_count; ranges = ranges_of c; constants = constants_of c subpage; settings = s; ambient = t_a; alpha = alpha; mask = m }

-- both in one pass, and the second pass
abbrev pub pass_call : Calibration → IrCall → List Float → PassCall
pass_call c ir alpha = record { ir = ir; ranges = ranges_of c; alpha = alpha }
