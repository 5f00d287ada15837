-- `pixels::any_masked` meets its contract: an OR of mask bytes is 0 only if every byte is 0. Assumes nothing.
use borrow.Author.Tests.{eq-eqb, eqb-true}
use mathlib.Core.Path.{◌≡◌, refl, ap}
use mathlib.Core.Bool.{Bool, true, false, not, true≢false}
use Prim.Native.Nat.{ℕ, ◌+◌}
use native.Mathlib.Omega.{arith}
use lib.Dec.{eqb}
use lib.ListN.{get_or}
use Rattle.util.proofs.Or.{left-none, right-none}
use Rattle.roots.specs.Many.{side}
use Rattle.pixels.specs.Pixels.{touched}
use Rattle.pixels.proofs.Blocks.{none-asked, nor-this}
use Rattle.pixels.proofs.any_masked.Goals as goal

pub loop-i-init : goal.loop-i-init
loop-i-init c = (omega arith, λ _. none-asked _ _)

pub loop-i-preserved : goal.loop-i-preserved
unfolding touched
loop-i-preserved c =
    let l = c.loop-i in
    let a = c.args in
    let byte = get_or a.mask.now (a.base + l.i) 0 in
    (omega arith, λ e. nor-this (l.invariant.1 (left-none l.any byte e)) (ap not (eq-eqb byte 0 (right-none l.any byte e))))

zero_of : (n : ℕ) (b : Bool) → eqb n 0 ≡ b → not b ≡ false → n ≡ 0
zero_of n true e f = eqb-true n 0 e
zero_of n false e f = absurd (true≢false f)

pub returns : goal.returns
returns c = λ f.
    let l = c.loop-i in
    let e : l.i ≡ side = omega arith in
    rw e at (l.invariant.1 (zero_of l.any (eqb l.any 0) refl f))
