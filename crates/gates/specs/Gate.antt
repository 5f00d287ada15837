-- The tests of the three frame calls, in order: document 01, "When the gate says stop", with refusal 10 of document 02, CR 1. Assumes nothing.
use Rattle.std.specs.Prelude.{ℕ, ◌*◌, Bool, not, ◌||◌, List, [], ◌∷◌, ◌++◌, leb, ltb, ◌-ℤ◌, Float}
use Rattle.std.specs.Float.Ieee.{is_nan}
use Rattle.floats.specs.Floats.{real, is_zero}
use Rattle.util.specs.Fields.{in_i16}
use Rattle.refusal.specs.declared.Refusal.TheVariants.{ShortTable, ShortFrame, BasicRange, SupplyRange, ZeroDivisor}
use Rattle.refusal.specs.Order.{Test, ◌refuses◌}
use Rattle.formulas.specs.declared.Constants.{Constants}
use Rattle.formulas.specs.declared.RamData.{RamData}
use Rattle.formulas.specs.Frame.{delta_of, ptat_correction_of, denominator_of}
use Rattle.gates.specs.declared.Lengths.{Lengths}

-- ---- the conditions

-- whether v_dd_pixel - V_DD25 is outside i16
unfoldable pub supply_outside : Constants → RamData → Bool
supply_outside c ram = not (in_i16 (ram.v_dd_pixel -ℤ c.v_dd_25))

-- whether K_VDD, RAM gain, K_TPTAT, 1 + K_VPTAT × delta or the PTAT denominator is a zero
unfoldable pub zero_divisor : Constants → RamData → Bool
zero_divisor c ram =
    is_zero (real c.k_v_dd) || (is_zero (real ram.gain) || (is_zero c.k_t_ptat || (is_zero (ptat_correction_of c (delta_of c ram)) || is_zero (denominator_of c ram))))

-- whether the emissivity is a zero or NaN
unfoldable pub bad_emissivity : Float → Bool
bad_emissivity e = is_zero e || is_nan e

-- ---- the tests, by refusal

-- 2: a table is short; 10: pixel bytes, destination or mask are short, in that order
unfoldable pub length_tests : Lengths → List Test
length_tests l =
    ltb l.table l.size refuses ShortTable
    ∷ ltb l.pixels (2 * l.size) refuses ShortFrame l.pixels
    ∷ ltb l.destination l.size refuses ShortFrame l.destination
    ∷ ltb l.mask l.size refuses ShortFrame l.mask
    ∷ []

-- 6: the camera has only `ranges` ranges, counted from 0
unfoldable pub range_tests : ℕ → ℕ → List Test
range_tests ranges range =
    leb ranges range refuses BasicRange range
    ∷ []

-- 7 and 8, for calls that take pixel bytes
unfoldable pub reading_tests : Constants → Float → RamData → List Test
reading_tests c e ram =
    supply_outside c ram refuses SupplyRange
    ∷ (zero_divisor c ram || bad_emissivity e) refuses ZeroDivisor
    ∷ []

-- 8, by the emissivity alone
unfoldable pub emissivity_tests : Float → List Test
emissivity_tests e =
    bad_emissivity e refuses ZeroDivisor
    ∷ []

-- ---- the tests of each call

-- pixels to infrared: 2, 10, 7, 8
abbrev pub infrared_tests : Constants → Float → RamData → Lengths → List Test
infrared_tests c e ram l = length_tests l ++ reading_tests c e ram

-- infrared to temperature: 2, 10, 6, 8
abbrev pub temperature_tests : Float → ℕ → ℕ → Lengths → List Test
temperature_tests e ranges range l = length_tests l ++ (range_tests ranges range ++ emissivity_tests e)

-- one pass: 2, 10, 6, 7, 8
abbrev pub one_pass_tests : Constants → Float → RamData → ℕ → ℕ → Lengths → List Test
one_pass_tests c e ram ranges range l = length_tests l ++ (range_tests ranges range ++ reading_tests c e ram)
