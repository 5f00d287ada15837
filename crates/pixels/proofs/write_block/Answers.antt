-- `pixels::write_block` meets its contract: each pixel is left, or written and counted by its flag. Assumes nothing.
use borrow.Author.Rules.{rules}
use Prim.Native.Nat.{ℕ, ◌+◌, ◌<◌}
use mathlib.Core.Path.{◌≡◌, refl, ap, ap₂, ◌∙◌}
use mathlib.Core.Bool.{Bool}
use native.Mathlib.Omega.{arith}
use lib.ListN.{get_or}
use Rattle.lists.specs.Pick.{pick}
use Rattle.roots.specs.Many.{side}
use Rattle.pixels.specs.Pixels.{touched}
use Rattle.pixels.proofs.Steps.{start, stepped, at_most_one}
use Rattle.pixels.proofs.write_block.Goals as goal

pub loop-i-init : goal.loop-i-init
loop-i-init c = (omega arith, start _ _ _)

pub overflow_add-lost : goal.overflow_add-lost
overflow_add-lost c =
    let few = c.loop-i.invariant.1.few in
    let one = at_most_one (touched c.args.mask.now (c.args.base + c.loop-i.i)) (get_or c.args.bits.now c.loop-i.i 0) in
    let n = (let h : c.loop-i.i < side = search rules in
    c.chosen-lost.ensures ∙ ap₂ (λ (t : Bool) (n : ℕ). pick t n 0) c.masked-asked.ensures (c.requires.2.at c.loop-i.i h)) in
    omega arith

pub loop-i-preserved : goal.loop-i-preserved
loop-i-preserved c =
    let a = c.args in
    let i = c.loop-i.i in
    let asked = c.masked-asked.ensures in (
      omega arith,
      stepped _ _ c.loop-i.invariant.1 (touched a.mask.now (a.base + i)) refl
          (c.chosen.ensures ∙ ap (λ (t : Bool). pick t (get_or a.bits.now i 0) (get_or c.loop-i.destination (a.base + i) 0)) asked)
          ((let h : c.loop-i.i < side = search rules in
          c.chosen-lost.ensures ∙ ap₂ (λ (t : Bool) (n : ℕ). pick t n 0) c.masked-asked.ensures (c.requires.2.at c.loop-i.i h))),
    )

pub returns : goal.returns
returns c = let e : c.loop-i.i ≡ side = omega arith in rw e at c.loop-i.invariant.1
