-- For inner functions only: the parts of the record, as the code reads them. Assumes nothing.
use Rattle.std.specs.Prelude.{ℕ, ◌+◌, List, pos}
use Rattle.floats.specs.Floats.{over}
use Rattle.util.specs.Fields.{signed}
use Rattle.card.specs.Inner.{at}
use Rattle.calibration.specs.declared.Calibration.{Calibration}
use Rattle.calibration.specs.declared.Sensing.{Sensing}
use Rattle.calibration.specs.declared.References.{References}
use Rattle.calibration.specs.declared.Ptat.{Ptat}
use Rattle.calibration.specs.declared.Compensation.{Compensation}
use Rattle.calibration.specs.declared.Range.{Range}
use Rattle.calibration.specs.Calibration.{calibration_of}

-- the record of a card for basic range 0; the parts below do not depend on the basic range
abbrev pub card_of : (ℕ → ℕ) → Calibration
card_of w = calibration_of w 0

-- the fields of words 34 to 37
abbrev pub sensing_of : Calibration → Sensing
sensing_of c = record { k_s_ta = c.k_s_ta; emissivity = c.emissivity; gain = c.gain }

-- the fields of words 38 to 41
abbrev pub references_of : Calibration → References
references_of c = record { v_dd_25 = c.v_dd_25; k_v_dd = c.k_v_dd; v_ptat_25 = c.v_ptat_25 }

-- the fields of words 42 to 46
abbrev pub ptat_of : Calibration → Ptat
ptat_of c = record { k_t_ptat = c.k_t_ptat; k_v_ptat = c.k_v_ptat; alpha_ptat = c.alpha_ptat; alpha_cp = c.alpha_cp }

-- the fields of words 47 to 51
abbrev pub compensation_of : Calibration → Compensation
compensation_of c = record {
  offset_reference_cp = c.offset_reference_cp;
  k_ta_cp = c.k_ta_cp;
  k_v_cp = c.k_v_cp;
  resolution = c.resolution;
  temperature_gradient_coefficient = c.temperature_gradient_coefficient;
}

-- the corner temperature in word k and its K_sTo in the next word, divided by 2 ^ power
abbrev pub range_at : List ℕ → ℕ → ℕ → Range
range_at words power k = record {
  corner = pos (at words k);
  k_s_to = over (signed 11 (at words (k + 1))) power;
  next = record { word = k + 1 + 1 };
}
