-- The promise of the C call determines its result: the inner call's result is unique, and C's is that one, converted. Assumes nothing.
use Prim.Native.Nat.{ℕ}
use mathlib.Core.Path.{◌≡◌, ap, sym, ◌∙◌}
use mathlib.Core.List.{List}
use Rattle.load640.specs.Load.{Tables}
use Rattle.load640.proofs.Single as load640
use Rattle.capi_load640.specs.declared.Load640.{Load640}
use Rattle.capi_load640.specs.Border.{loaded_out, Loading}

pub single-loading : {image : List ℕ} {range : ℕ} {before x y : Tables} {r q : Load640} → Loading image range before x r → Loading image range before y q → (r ≡ q) × (x ≡ y)
single-loading p s =
    let e = load640.single p.loads s.loads in
    (p.out ∙ ap loaded_out e.0 ∙ sym s.out, e.1)
