-- Each frame call's promise determines its result: two results and destinations that it allows for the same inputs are equal. Proved for any call, and so for
-- each. Assumes nothing.
use Prim.Native.Nat.{ℕ}
use mathlib.Core.Path.{◌≡◌, sym, ◌∙◌}
use mathlib.Core.List.{List}
use lib.Ieee.{Float}
use Rattle.std.specs.Prelude.{⊤, Result}
use Rattle.refusal.specs.declared.Refusal.{Refusal}
use Rattle.frames.specs.declared.Frame.{Frame}
use Rattle.frames.specs.Frames.{IrCall, ToCall, PassCall, Writes, Infrareds, Temperatures, Passes}
use Rattle.frames.specs.Ranged.{RangedPasses}

pub single : {n : ℕ} {verdict : Result ⊤ Refusal} {t_a : Float} {mask : List ℕ} {bits : ℕ → ℕ} {d x y : List ℕ} {r q : Result Frame Refusal}
    → Writes n verdict t_a mask bits d x r → Writes n verdict t_a mask bits d y q → (r ≡ q) × (x ≡ y)
single p s = (p.answer ∙ sym s.answer, p.destination ∙ sym s.destination)

pub single-infrared : (f : IrCall) (d x y : List ℕ) (r q : Result Frame Refusal) → Infrareds f d x r → Infrareds f d y q → (r ≡ q) × (x ≡ y)
single-infrared f d x y r q p s = single p s

pub single-temperatures : (f : ToCall) (d x y : List ℕ) (r q : Result Frame Refusal) → Temperatures f d x r → Temperatures f d y q → (r ≡ q) × (x ≡ y)
single-temperatures f d x y r q p s = single p s

pub single-pass : (f : PassCall) (d x y : List ℕ) (r q : Result Frame Refusal) → Passes f d x r → Passes f d y q → (r ≡ q) × (x ≡ y)
single-pass f d x y r q p s = single p s

pub single-ranged : (f : PassCall) (d x y : List ℕ) (r q : Result Frame Refusal) → RangedPasses f d x r → RangedPasses f d y q → (r ≡ q) × (x ≡ y)
single-ranged f d x y r q p s = single p s
