-- If the compensation reading is NaN and the record has a gradient, every pixel's infrared value is NaN. Assumes nothing.
use Prim.Native.Nat.{ℕ}
use mathlib.Core.Path.{◌≡◌, refl}
use lib.Ieee.{Float, nan, inf, fin, add, sub, mul, div, neg}
use Rattle.floats.specs.Floats.{◌⊖◌, ◌⊗◌, real}
use Rattle.formulas.specs.declared.Constants.{Constants}
use Rattle.std.specs.Prelude.{Some}
use Rattle.formulas.specs.declared.CommonIrData.{CommonIrData}
use Rattle.formulas.specs.Pixel.{plain_of, infrared_of}
use Rattle.frames.specs.Frames.{IrCall, common, infrared_at}

times-nan : (x : Float) → x ⊗ nan ≡ nan
unfolding mul
times-nan nan = refl
times-nan (inf s) = refl
times-nan (fin s m e) = refl

less-nan : (x : Float) → x ⊖ nan ≡ nan
unfolding sub add neg
less-nan nan = refl
less-nan (inf s) = refl
less-nan (fin s m e) = refl

plain-nan : (c : CommonIrData) (offset k_v k_ta access : Float) → plain_of c nan offset k_v k_ta access ≡ nan
unfolding plain_of mul add sub div
plain-nan c offset k_v k_ta access = refl

infrared-nan : (c : Constants) (common : CommonIrData) {g : Float} (access_cp pixel offset k_v k_ta access : Float)
    → c.temperature_gradient_coefficient ≡ Some g → infrared_of c common nan access_cp pixel offset k_v k_ta access ≡ nan
unfolding infrared_of
infrared-nan c common {g} access_cp pixel offset k_v k_ta access h =
    rw (h, plain-nan common (real c.offset_reference_cp) c.k_v_cp c.k_ta_cp access_cp, times-nan g)
    (less-nan (plain_of common pixel offset k_v k_ta access))

pub lost-all : (f : IrCall) {g : Float} → f.compensation ≡ nan → f.constants.temperature_gradient_coefficient ≡ Some g
    → (k : ℕ) → infrared_at f k ≡ nan
unfolding infrared_at common
lost-all f e h k = rw e (infrared-nan f.constants (common f) _ _ _ _ _ _ h)
