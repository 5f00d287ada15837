-- Computing values once, outside the loop over pixels, changes nothing: v, A and X from them are document 01's. Assumes nothing.
use mathlib.Core.Path.{◌≡◌, refl, subst}
use lib.Dec.{T}
use lib.Ieee.{Float, binary32, fits}
use lib.Ieee.Fits.{add-fits, sub-fits, div-fits}
use Rattle.std.specs.Prelude.{Option, None, Some}
use Rattle.formulas.specs.declared.Constants.{Constants}
use Rattle.formulas.specs.declared.CommonIrData.{CommonIrData}
use Rattle.formulas.specs.declared.Settings.{Settings}
use Rattle.formulas.specs.Pixel.{less, plain_of, infrared_of, reflected_of, t_ar_of, sensitivity_of, final_of}
use Rattle.formulas.specs.Inner.{deducted, deduction_by, compensation_of, alpha_deduction_of, correction_of, common_to_of, lifted_sensitivity, lifted_under, lifted_from, lifted_final}

-- subtracting a gradient's deduction is what `less` does with the gradient
by-gradient : (gradient : Option Float) (y : Float → Float) (x : Float) → deducted x (deduction_by gradient y) ≡ less gradient y x
by-gradient (Some g) y x = refl
by-gradient None y x = refl

pub infrared : (c : Constants) (common : CommonIrData) (compensation access_cp pixel offset k_v k_ta access : Float)
    → deducted (plain_of common pixel offset k_v k_ta access) (compensation_of c common compensation access_cp) ≡ infrared_of c common compensation access_cp pixel offset k_v k_ta access
unfolding compensation_of infrared_of
infrared c common compensation access_cp pixel offset k_v k_ta access = by-gradient c.temperature_gradient_coefficient _ _

module _ (c : Constants) (settings : Settings) (t_a k : Float) where
  pub sensitivity : (alpha : Float) → lifted_sensitivity alpha (common_to_of c settings t_a k) ≡ sensitivity_of c t_a alpha
  unfolding lifted_sensitivity common_to_of alpha_deduction_of correction_of sensitivity_of
  sensitivity alpha = rw (by-gradient c.temperature_gradient_coefficient _ alpha)

  pub final : (v A : Float) → lifted_final v A (common_to_of c settings t_a k) ≡ final_of k (t_ar_of t_a (reflected_of settings.reflected t_a) settings.emissivity) A v
  unfolding lifted_under lifted_from lifted_final common_to_of final_of
  final v A = refl

-- ---- v and X are binary32

pub deducted-fits : (common : CommonIrData) (pixel offset k_v k_ta access : Float) (by : Option Float) → T (fits binary32 (deducted (plain_of common pixel offset k_v k_ta access) by))
unfolding plain_of
deducted-fits common pixel offset k_v k_ta access None = div-fits binary32 _ _
deducted-fits common pixel offset k_v k_ta access (Some y) = sub-fits binary32 _ y

pub infrared-fits : (c : Constants) (common : CommonIrData) (compensation access_cp pixel offset k_v k_ta access : Float)
    → T (fits binary32 (infrared_of c common compensation access_cp pixel offset k_v k_ta access))
infrared-fits c common compensation access_cp pixel offset k_v k_ta access =
    subst (λ (v : Float). T (fits binary32 v)) (infrared c common compensation access_cp pixel offset k_v k_ta access) (deducted-fits common pixel offset k_v k_ta access (compensation_of c common compensation access_cp))

pub final-fits : (k tAr A v : Float) → T (fits binary32 (final_of k tAr A v))
unfolding final_of
final-fits k tAr A v = add-fits binary32 _ _
