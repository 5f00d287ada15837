-- The promises of the C calls determine their results: the inner calls' results are unique, and C's are those, converted. Assumes nothing.
use Prim.Native.Nat.{ℕ}
use mathlib.Core.Path.{◌≡◌, ap, sym, ◌∙◌}
use mathlib.Core.List.{List}
use Rattle.burn.proofs.Single as burn
use Rattle.capi_burn.specs.declared.Burn.{Burn}
use Rattle.capi_burn.specs.Burning.{burnt_out, Burning}

pub single-burning : {present wanted x y : List ℕ} {r q : Burn} → Burning present wanted x r → Burning present wanted y q → (r ≡ q) × (x ≡ y)
single-burning p s =
    let e = burn.single p.burns s.burns in
    (p.out ∙ ap burnt_out e.0 ∙ sym s.out, e.1)
