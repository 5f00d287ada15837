-- For inner functions only: the values that the code computes once, before its loop over pixels, and the formulas that use them. `proofs/Lifted` proves
-- that they equal those of Pixel. Assumes nothing.
use Rattle.std.specs.Prelude.{Option, None, Some, Float}
use Rattle.floats.specs.Floats.{◌⊕◌, ◌⊖◌, ◌⊗◌, ◌⊘◌, real}
use Rattle.floats.specs.Constants.{one, twenty_five, freezing}
use Rattle.root.specs.Root.{root}
use Rattle.formulas.specs.declared.Constants.{Constants}
use Rattle.formulas.specs.declared.CommonIrData.{CommonIrData}
use Rattle.formulas.specs.declared.CommonToData.{CommonToData}
use Rattle.formulas.specs.declared.Settings.{Settings}
use Rattle.formulas.specs.Pixel.{plain_of, cube, fourth, reflected_of, t_ar_of}

-- x minus the deduction, if there is one
abbrev pub deducted : Float → Option Float → Float
deducted x None = x
deducted x (Some y) = x ⊖ y

-- the deduction for a gradient: y of its coefficient, or nothing if there is no gradient
abbrev pub deduction_by : Option Float → (Float → Float) → Option Float
deduction_by (Some g) y = Some (y g)
deduction_by None y = None

-- the compensation pixel's deduction from every pixel's infrared value: gradient × (its own infrared value before the gradient)
unfoldable pub compensation_of : Constants → CommonIrData → Float → Float → Option Float
compensation_of c common reading access =
    deduction_by c.temperature_gradient_coefficient
    (λ (g : Float). g ⊗ plain_of common reading (real c.offset_reference_cp) c.k_v_cp c.k_ta_cp access)

-- the compensation pixel's deduction from every pixel's sensitivity: alpha_CP × gradient
unfoldable pub alpha_deduction_of : Constants → Option Float
alpha_deduction_of c = deduction_by c.temperature_gradient_coefficient (λ (g : Float). c.alpha_cp ⊗ g)

-- the sensitivity's correction by the ambient temperature: 1 + K_sTa × (t_a - 25)
unfoldable pub correction_of : Constants → Float → Float
correction_of c t_a = one ⊕ c.k_s_ta ⊗ (t_a ⊖ twenty_five)

-- the numbers that all pixels share in the step from infrared to temperature; k is K_sTo of the basic range
unfoldable pub common_to_of : Constants → Settings → Float → Float → CommonToData
common_to_of c settings t_a k = record {
  alpha_deduction = alpha_deduction_of c;
  correction = correction_of c t_a;
  t_ar = t_ar_of t_a (reflected_of settings.reflected t_a) settings.emissivity;
  k_s_to = k;
  slope = one ⊖ k ⊗ freezing;
}

-- A, from the shared numbers
unfoldable pub lifted_sensitivity : Float → CommonToData → Float
lifted_sensitivity alpha c = deducted alpha c.alpha_deduction ⊗ c.correction

-- the number under the root in X: A^3 × v + A^4 × t_ar
unfoldable pub lifted_under : Float → Float → CommonToData → Float
lifted_under v A c = cube A ⊗ v ⊕ fourth A ⊗ c.t_ar

-- X, where r is the root of that number
unfoldable pub lifted_from : Float → Float → Float → CommonToData → Float
lifted_from v A r c = v ⊘ (A ⊗ c.slope ⊕ c.k_s_to ⊗ r) ⊕ c.t_ar

-- X, with that root computed
unfoldable pub lifted_final : Float → Float → CommonToData → Float
lifted_final v A c = lifted_from v A (root (lifted_under v A c)) c
