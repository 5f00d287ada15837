-- What a load never produces: NaN in its record or its tables, and refusal 13 with a basic range of 4 or less. Assumes nothing.
use Rattle.std.specs.Prelude.{ℕ, ◌<◌, ◌≤◌, ◌≡◌, false, List, get_or, Float, Some, Result, Err, IfOk, OnOk}
use Rattle.std.specs.Float.{nan}
use Rattle.std.specs.Float.Ieee.{is_nan}
use Rattle.refusal.specs.declared.Refusal.{Refusal}
use Rattle.refusal.specs.declared.Refusal.TheVariants.{ZeroFactor}
use Rattle.map.specs.Map.{frame_pixels}
use Rattle.calibration.specs.declared.Calibration.{Calibration}
use Rattle.calibration.specs.Calibration.{no_calibration}
use Rattle.calibration.specs.Coefficients.{range_count}
use Rattle.eeprom.specs.declared.Loaded.{Loaded}
use Rattle.eeprom.specs.Load.{Tables, load_verdict}

-- x is not NaN; it may be infinite
abbrev pub Number : Float → Type 0
Number x = is_nan x ≡ false

-- the list has at least n entries, and none of the first n is NaN
abbrev pub NumbersBelow : ℕ → List Float → Type 0
NumbersBelow n list = (k : ℕ) → k < n → Number (get_or list k nan)

-- no f32 of a record is NaN
pub record NumberRecord (c : Calibration) : Type 0 where
  pub k_s_ta : Number c.k_s_ta
  pub emissivity : Number c.emissivity
  pub gain : Number c.gain
  pub v_ptat_25 : Number c.v_ptat_25
  pub k_t_ptat : Number c.k_t_ptat
  pub k_v_ptat : Number c.k_v_ptat
  pub alpha_ptat : Number c.alpha_ptat
  pub alpha_cp : Number c.alpha_cp
  pub k_ta_cp : Number c.k_ta_cp
  pub k_v_cp : Number c.k_v_cp
  pub gradient : (x : Float) → c.temperature_gradient_coefficient ≡ Some x → Number x
  pub k_s_to : NumbersBelow range_count c.k_s_to
  pub range_coefficients : NumbersBelow range_count c.range_coefficients

-- no entry among the first 192 of the three f32 tables is NaN
pub record NumberTables (t : Tables) : Type 0 where
  pub alpha : NumbersBelow frame_pixels t.alpha
  pub k_v : NumbersBelow frame_pixels t.k_v
  pub k_ta : NumbersBelow frame_pixels t.k_ta

-- the record and the tables of a load that passes have no NaN; nor has the record of zeros, which stands for that of a refused load
pub record AllNumbers (after : Tables) (r : Result Loaded Refusal) : Type 0 where
  pub calibration : IfOk r (λ l. NumberRecord l.calibration)
  pub refused : NumberRecord no_calibration
  pub lent : OnOk r (NumberTables after)

-- refusal 13 only occurs with a basic range of 5 or more
abbrev pub ZeroFactorFrom5 : Type 0
ZeroFactorFrom5 = (image : List ℕ) (range : ℕ) (t : Tables) (r : ℕ) → load_verdict image range t ≡ Err (ZeroFactor r) → 5 ≤ range
