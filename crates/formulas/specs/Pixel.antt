-- A pixel's infrared value from its reading, and its temperature from that. Each operator is one f32 step, rounded once. Assumes nothing.
use Rattle.std.specs.Prelude.{Option, None, Some, Float}
use Rattle.std.specs.Float.Ieee.{eq, is_nan}
use Rattle.lists.specs.Pick.{pick}
use Rattle.floats.specs.Floats.{◌⊕◌, ◌⊖◌, ◌⊗◌, ◌⊘◌, real}
use Rattle.floats.specs.Constants.{one, three_point_three, twenty_five, freezing}
use Rattle.root.specs.Root.{root, celsius}
use Rattle.formulas.specs.declared.Constants.{Constants}
use Rattle.formulas.specs.declared.CommonIrData.{CommonIrData}
use Rattle.formulas.specs.declared.Range.{Range}
use Rattle.formulas.specs.declared.Reflected.{Reflected}
use Rattle.formulas.specs.declared.Reflected.TheVariants.{Given, Ambient}
use Rattle.formulas.specs.declared.Pixel.{Pixel}
use Rattle.formulas.specs.declared.Pixel.TheVariants.{Temperature, Lost}

-- x minus y of the gradient's coefficient; x itself if there is no gradient
abbrev pub less : Option Float → (Float → Float) → Float → Float
less (Some g) y x = x ⊖ y g
less None y x = x

-- ((pixel × gain + access) - (offset × (1 + K_Ta × (t_a - 25))) × (1 + K_V × (supply - 3.3))) / emissivity; the access term is 0 unless the camera
-- reads in interleave mode
unfoldable pub plain_of : CommonIrData → Float → Float → Float → Float → Float → Float
plain_of c pixel offset k_v k_ta access =
    (pixel ⊗ c.gain ⊕ access ⊖ offset ⊗ (one ⊕ k_ta ⊗ (c.t_a ⊖ twenty_five)) ⊗ (one ⊕ k_v ⊗ (c.v_dd ⊖ three_point_three))) ⊘ c.emissivity

-- v: the value above; with a gradient, minus gradient × (the same for the compensation pixel, from its own reading and access term)
unfoldable pub infrared_of : Constants → CommonIrData → Float → Float → Float → Float → Float → Float → Float → Float
infrared_of c common compensation access_cp pixel offset k_v k_ta access =
    less c.temperature_gradient_coefficient
    (λ (g : Float). g ⊗ plain_of common compensation (real c.offset_reference_cp) c.k_v_cp c.k_ta_cp access_cp)
    (plain_of common pixel offset k_v k_ta access)

-- the cube, as (x·x)·x
abbrev pub cube : Float → Float
cube x = x ⊗ x ⊗ x

-- the fourth power, as (x·x)·(x·x)
abbrev pub fourth : Float → Float
fourth x = (x ⊗ x) ⊗ (x ⊗ x)

-- the reflected temperature: the given one, or t_a minus self-heating
abbrev pub reflected_of : Reflected → Float → Float
reflected_of (Given tR) t_a = tR
reflected_of (Ambient selfHeating) t_a = t_a ⊖ selfHeating

-- t_ar: with a = t_a + 273.15 and r likewise, a^4 if the emissivity is 1, else r^4 - (r^4 - a^4) / emissivity
unfoldable pub t_ar_of : Float → Float → Float → Float
t_ar_of t_a tR emissivity =
    let a4 = fourth (t_a ⊕ freezing) in
    let r4 = fourth (tR ⊕ freezing) in
    pick (eq emissivity one) a4 (r4 ⊖ (r4 ⊖ a4) ⊘ emissivity)

-- A = (alpha - alpha_CP × gradient) × (1 + K_sTa × (t_a - 25)); without a gradient nothing is subtracted
unfoldable pub sensitivity_of : Constants → Float → Float → Float
sensitivity_of c t_a alpha =
    less c.temperature_gradient_coefficient (λ (g : Float). c.alpha_cp ⊗ g) alpha ⊗ (one ⊕ c.k_s_ta ⊗ (t_a ⊖ twenty_five))

-- X = v / (A × (1 - k × 273.15) + s) + t_ar with s = k × root(A^3 × v + A^4 × t_ar)
unfoldable pub final_of : Float → Float → Float → Float → Float
final_of k tAr A v =
    let s = k ⊗ root (cube A ⊗ v ⊕ fourth A ⊗ tAr) in
    v ⊘ (A ⊗ (one ⊖ k ⊗ freezing) ⊕ s) ⊕ tAr

-- X of document 02, CR 9: v / (A × coefficient × (1 + K × (temperature - T))) + t_ar, with the coefficient, K_sTo and corner T of a range
unfoldable pub ranged_of : Range → Float → Float → Float → Float → Float
ranged_of r tAr A v t = v ⊘ (A ⊗ r.coefficient ⊗ (one ⊕ r.k_s_to ⊗ (t ⊖ r.corner))) ⊕ tAr

-- a pixel's result: the temperature t, or v as lost if t is NaN
abbrev pub decided : Float → Float → Pixel
decided t v = pick (is_nan t) (Lost v) (Temperature t)

-- a pixel's result, with the temperature root(X) - 273.15
abbrev pub answer_of : Float → Float → Pixel
answer_of X v = decided (celsius X) v
