-- The arguments that C passes to a frame call, and the result that it gets. Assumes nothing.
use Rattle.std.specs.Prelude.{◌≡◌, eqb, Result, Ok, Err}
use Rattle.lists.specs.Pick.{pick}
use Rattle.refusal.specs.Refusal.{told_of}
use Rattle.refusal.specs.declared.Refusal.{Refusal}
use Rattle.formulas.specs.declared.RamData.{RamData}
use Rattle.formulas.specs.declared.Reflected.TheVariants.{Given, Ambient}
use Rattle.formulas.specs.declared.Settings as inner
use Rattle.frames.specs.declared.Frame.{Frame}
use Rattle.calculations.specs.declared.Input as frame
use Rattle.capi_record.specs.Record.{subpage_of}
use Rattle.capi_frames.specs.declared.Answer.{Answer}
use Rattle.capi_frames.specs.declared.Input.{Input}
use Rattle.capi_frames.specs.declared.Ram.{Ram}
use Rattle.capi_frames.specs.declared.Settings.{Settings}

-- ---- the arguments

-- the sensor readings, from C's
abbrev pub ram_in : Ram → RamData
ram_in m = record {
  t_a_v_be = m.t_a_v_be;
  t_a_ptat = m.t_a_ptat;
  v_dd_pixel = m.v_dd_pixel;
  gain = m.gain;
  compensation_pixel = m.compensation_pixel;
}

-- the settings, from C's; the flag 0 makes the reflected temperature the ambient temperature minus self-heating
abbrev pub settings_in : Settings → inner.Settings
settings_in s = record {
  emissivity = s.emissivity;
  resolution_correction = s.resolution_correction;
  v_dd_0 = s.v_dd_0;
  basic_range = s.basic_range;
  reflected = pick (eqb s.reflected_given 0) (Ambient s.self_heating) (Given s.reflected);
}

-- the inputs of a frame, from C's
abbrev pub input_in : Input → frame.Input
input_in f = record { settings = settings_in f.settings; ram = ram_in f.ram; subpage = subpage_of f.subpage }

-- ---- the result

-- the result of a frame call as C has it
abbrev pub frame_out : Result Frame Refusal → Answer
frame_out (Ok f) = record { number = 0; place = 0; value = 0; lost = f.lost; t_a = f.t_a }
frame_out (Err r) = record { number = (told_of r).number; place = (told_of r).place; value = (told_of r).value; lost = 0; t_a = 0 }

-- some inner result meets the inner call's promise, and C's result is that one, converted
pub record Carried (promise : Result Frame Refusal → Type 0) (r : Answer) : Type 0 where
  pub inner : Result Frame Refusal
  pub kept : promise inner
  pub out : r ≡ frame_out inner
