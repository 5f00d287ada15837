-- `filter::average` meets its contract: one test, then the sum, which is exact as f32, over 16. Assumes nothing.
use borrow.Author.Rules.{rules}
use borrow.Author.Tests.{lt-ltb, le-ltb}
use mathlib.Core.Path.{◌≡◌, refl, ap, ap₂, ◌∙◌}
use native.Mathlib.Omega.{arith}
use Prim.Native.Nat.{◌<◌}
use Rattle.std.specs.Prelude.{Some}
use lib.IntN.{ℤ}
use lib.Signed.{mag}
use lib.Ieee.{Float, binary32, of_bits}
use mir.Facts.{to_z-of_z}
use mir.Syntax.{w32}
use mir.Val.{to_z, of_z}
use Rattle.floats.specs.Floats.{power_of_two, real, ◌⊘◌}
use Rattle.floats.proofs.Power.{power-bits}
use Rattle.util.proofs.Range.{back32}
use Rattle.filter.specs.Filter.{kept, average_of}
use Rattle.filter.proofs.average.Goals as goal

sixteen : of_bits binary32 0x41800000 ≡ power_of_two 4
sixteen = power-bits 4 (omega arith)

back : (z : ℤ) → mag z < 524288 → to_z w32 (of_z w32 z) ≡ z
back z h = back32 z (omega arith)

pub returns-then-filter-lt16 : goal.returns-then-filter-lt16
unfolding average_of
returns-then-filter-lt16 c = rw (lt-ltb c.args.filter.turn 16 c.if-filter-lt16.true) refl

pub returns : goal.returns
unfolding average_of
returns c =
    let k = c.kept in
    let s = c in
    let sum : to_z w32 (of_z w32 s.args.filter.sum) ≡ s.args.filter.sum = to_z-of_z {w = w32} (search rules) in
    rw (le-ltb s.args.filter.turn 16 s.if-filter-lt16.false)
    (ap₂ (λ (z : ℤ) (x : Float). Some (real z ⊘ x)) (back k.result k.ensures.1 ∙ k.ensures.0 ∙ ap kept sum) sixteen)
