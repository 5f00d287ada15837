-- What the frame calls of any camera return, and the whole destination that they leave. Assumes nothing.
use Rattle.std.specs.Prelude.{ℕ, min, ◌*◌, ◌≡◌, List, ℤ, get_or, length, ⊤, Result, Option, None, Some, Float}
use Rattle.std.specs.Float.{nan, binary32}
use Rattle.std.specs.Float.Ieee.{to_bits}
use Rattle.floats.specs.Floats.{real}
use Rattle.refusal.specs.Refusal.{unless, giving}
use Rattle.refusal.specs.Order.{first_of}
use Rattle.refusal.specs.declared.Refusal.{Refusal}
use Rattle.formulas.specs.declared.CommonIrData.{CommonIrData}
use Rattle.formulas.specs.declared.Constants.{Constants}
use Rattle.formulas.specs.declared.RamData.{RamData}
use Rattle.formulas.specs.declared.Settings.{Settings}
use Rattle.formulas.specs.Frame.{common_of}
use Rattle.formulas.specs.Pixel.{infrared_of, reflected_of, t_ar_of, sensitivity_of, final_of}
use Rattle.gates.specs.declared.Lengths.{Lengths}
use Rattle.gates.specs.Gate.{infrared_tests, temperature_tests, one_pass_tests}
use Rattle.pixels.specs.Pixels.{reading_at, held, infrared_bits, temperature_bits, into, lost_of}
use Rattle.frames.specs.declared.Frame.{Frame}

-- ---- any frame call

-- a frame with the two given numbers
abbrev pub frame_of : ℕ → ℕ → Frame
frame_of t_a lost = record { t_a = t_a; lost = lost }

-- the refusal of a verdict, or else `done`
abbrev pub answer_by : Result ⊤ Refusal → Frame → Result Frame Refusal
answer_by = giving

-- what a frame call does, with destination d before and d' after, and result r: if the verdict refuses, r is that refusal and d is unchanged; or else each of
-- the n pixels that the mask asks for is written as `bits k`, and r holds t_a and the number of pixels written as NaN (0x7FC00000)
pub record Writes (n : ℕ) (verdict : Result ⊤ Refusal) (t_a : Float) (mask : List ℕ) (bits : ℕ → ℕ) (d d' : List ℕ) (r : Result Frame Refusal) : Type 0 where
  pub answer : r ≡ answer_by verdict (frame_of (to_bits binary32 t_a) (lost_of n mask bits))
  pub destination : d' ≡ unless verdict (into n mask bits d) d

-- ---- pixels to infrared

-- the arguments: the camera's number of pixels; the calibration values of the formulas; the caller's settings; the RAM words; the compensation pixel's
-- reading and access term; the length of the shortest table; for each pixel its offset, K_V, K_Ta and access term; the pixel bytes and the mask
pub record IrCall : Type 0 where
  pub size : ℕ
  pub constants : Constants
  pub settings : Settings
  pub ram : RamData
  pub compensation : Float
  pub access_cp : Float
  pub table : ℕ
  pub offset : ℕ → Float
  pub k_v : ℕ → Float
  pub k_ta : ℕ → Float
  pub access : ℕ → Float
  pub pixels : List ℕ
  pub mask : List ℕ

-- the frame's own reading of the compensation pixel
abbrev pub own_reading : RamData → Float
own_reading ram = real ram.compensation_pixel

-- the compensation reading that the formulas use: a filter's average, or the frame's own reading if there is none yet
abbrev pub steadied : Option Float → RamData → Float
steadied None ram = own_reading ram
steadied (Some x) ram = x

-- the four numbers that all pixels share
unfoldable pub common : IrCall → CommonIrData
common f = common_of f.constants f.settings f.ram

-- the infrared value of pixel k
unfoldable pub infrared_at : IrCall → ℕ → Float
infrared_at f k =
    infrared_of f.constants (common f) f.compensation f.access_cp (reading_at f.pixels k) (f.offset k) (f.k_v k) (f.k_ta k) (f.access k)

-- the lengths that the gate tests
abbrev pub ir_lengths : IrCall → List ℕ → Lengths
ir_lengths f d = record { size = f.size; table = f.table; pixels = length f.pixels; destination = length d; mask = length f.mask }

-- the first refusal, or a pass
unfoldable pub ir_verdict : IrCall → List ℕ → Result ⊤ Refusal
ir_verdict f d = first_of (infrared_tests f.constants f.settings.emissivity f.ram (ir_lengths f d))

-- what the call does: it writes infrared values
abbrev pub Infrareds : IrCall → List ℕ → List ℕ → Result Frame Refusal → Type 0
Infrareds f d d' r = Writes f.size (ir_verdict f d) (common f).t_a f.mask (infrared_bits (infrared_at f)) d d' r

-- ---- infrared to temperature

-- the temperature ranges of a record: their number, and for each its lower corner, its K_sTo and its coefficient
pub record Ranges : Type 0 where
  pub count : ℕ
  pub corners : List ℤ
  pub k_s_to : List Float
  pub coefficients : List Float

-- the arguments: number of pixels, ranges, calibration values, settings, ambient temperature, alpha table and mask
pub record ToCall : Type 0 where
  pub size : ℕ
  pub ranges : Ranges
  pub constants : Constants
  pub settings : Settings
  pub ambient : Float
  pub alpha : List Float
  pub mask : List ℕ

-- t_ar, the same for all pixels
abbrev pub reflected_term : ToCall → Float
reflected_term f = t_ar_of f.ambient (reflected_of f.settings.reflected f.ambient) f.settings.emissivity

-- A of pixel k
abbrev pub sensitivity_at : ToCall → ℕ → Float
sensitivity_at f k = sensitivity_of f.constants f.ambient (get_or f.alpha k nan)

-- document 01's X of pixel k, where v gives the infrared values
unfoldable pub final_at : ToCall → (ℕ → Float) → ℕ → Float
final_at f v k = final_of (get_or f.ranges.k_s_to f.settings.basic_range nan) (reflected_term f) (sensitivity_at f k) (v k)

-- the lengths that the gate tests; no pixel bytes are taken, so their length is set to pass
abbrev pub to_lengths : ToCall → List ℕ → Lengths
to_lengths f d = record { size = f.size; table = length f.alpha; pixels = 2 * f.size; destination = length d; mask = length f.mask }

-- the first refusal, or a pass
unfoldable pub to_verdict : ToCall → List ℕ → Result ⊤ Refusal
to_verdict f d = first_of (temperature_tests f.settings.emissivity f.ranges.count f.settings.basic_range (to_lengths f d))

-- what the call does: it writes temperatures of the infrared values that the destination holds
abbrev pub Temperatures : ToCall → List ℕ → List ℕ → Result Frame Refusal → Type 0
Temperatures f d d' r =
    Writes f.size (to_verdict f d) f.ambient f.mask (temperature_bits (final_at f (held d)) (held d)) d d' r

-- ---- pixels to temperature, in one pass

-- the arguments: those of infrared, the ranges and the alpha table
pub record PassCall : Type 0 where
  pub ir : IrCall
  pub ranges : Ranges
  pub alpha : List Float

-- the arguments of the infrared-to-temperature step, with ambient temperature t_a
abbrev pub onward_at : PassCall → Float → ToCall
onward_at f t_a = record {
  size = f.ir.size;
  ranges = f.ranges;
  constants = f.ir.constants;
  settings = f.ir.settings;
  ambient = t_a;
  alpha = f.alpha;
  mask = f.ir.mask;
}

-- the same, with the frame's own ambient temperature
abbrev pub onward : PassCall → ToCall
onward f = onward_at f (common f.ir).t_a

-- the lengths that the gate tests
abbrev pub pass_lengths : PassCall → List ℕ → Lengths
pass_lengths f d = record { size = f.ir.size; table = min (length f.alpha) f.ir.table; pixels = length f.ir.pixels; destination = length d; mask = length f.ir.mask }

-- the first refusal, or a pass
unfoldable pub pass_verdict : PassCall → List ℕ → Result ⊤ Refusal
pass_verdict f d =
    first_of (one_pass_tests f.ir.constants f.ir.settings.emissivity f.ir.ram f.ranges.count f.ir.settings.basic_range (pass_lengths f d))

-- what the call does: it writes temperatures
abbrev pub Passes : PassCall → List ℕ → List ℕ → Result Frame Refusal → Type 0
Passes f d d' r =
    Writes f.ir.size (pass_verdict f d) (common f.ir).t_a f.ir.mask
    (temperature_bits (final_at (onward f) (infrared_at f.ir)) (infrared_at f.ir)) d d' r
