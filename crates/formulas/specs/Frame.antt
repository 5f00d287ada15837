-- The values computed once for a frame. Each operator is one f32 step, rounded once. Assumes nothing.
use Rattle.std.specs.Prelude.{◌-ℤ◌, Float}
use Rattle.floats.specs.Floats.{◌⊕◌, ◌⊖◌, ◌⊗◌, ◌⊘◌, real}
use Rattle.floats.specs.Constants.{one, twenty_five, two_to18}
use Rattle.formulas.specs.declared.Constants.{Constants}
use Rattle.formulas.specs.declared.RamData.{RamData}
use Rattle.formulas.specs.declared.Settings.{Settings}
use Rattle.formulas.specs.declared.CommonIrData.{CommonIrData}

-- delta = f32(v_dd_pixel - V_DD25) / K_VDD
unfoldable pub delta_of : Constants → RamData → Float
delta_of c ram = real (ram.v_dd_pixel -ℤ c.v_dd_25) ⊘ real c.k_v_dd

-- supply = delta × resolution correction + v_dd_0
unfoldable pub supply_of : Settings → Float → Float
supply_of s delta = delta ⊗ s.resolution_correction ⊕ s.v_dd_0

-- PTAT denominator = PTAT × alpha_PTAT + V_BE
unfoldable pub denominator_of : Constants → RamData → Float
denominator_of c ram = real ram.t_a_ptat ⊗ c.alpha_ptat ⊕ real ram.t_a_v_be

-- art = PTAT / (PTAT × alpha_PTAT + V_BE) × 2^18
unfoldable pub art_of : Constants → RamData → Float
art_of c ram = real ram.t_a_ptat ⊘ denominator_of c ram ⊗ two_to18

-- PTAT correction = 1 + K_VPTAT × delta
unfoldable pub ptat_correction_of : Constants → Float → Float
ptat_correction_of c delta = one ⊕ c.k_v_ptat ⊗ delta

-- t_a = (art / (1 + K_VPTAT × delta) - V_PTAT25) / K_TPTAT + 25
unfoldable pub ambient_of : Constants → Float → Float → Float
ambient_of c art delta = (art ⊘ ptat_correction_of c delta ⊖ c.v_ptat_25) ⊘ c.k_t_ptat ⊕ twenty_five

-- the four numbers that all pixels share; gain = record gain / RAM gain
unfoldable pub common_of : Constants → Settings → RamData → CommonIrData
common_of c settings ram = record {
  gain = c.gain ⊘ real ram.gain;
  v_dd = supply_of settings (delta_of c ram);
  emissivity = settings.emissivity;
  t_a = ambient_of c (art_of c ram) (delta_of c ram);
}
