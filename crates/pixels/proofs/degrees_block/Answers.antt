-- `pixels::degrees_block` meets its contract: the fourth roots, and then the degrees of each in place. Assumes nothing.
use borrow.Author.Rules.{rules}
use Prim.Native.Nat.{◌<◌}
use mathlib.Core.Path.{ap, ◌∙◌}
use native.Mathlib.Nat.{le_refl}
use native.Mathlib.Omega.{arith}
use lib.Seq.{get_or-set_other}
use lib.Ieee.{Float, nan}
use Rattle.lists.proofs.Each.{begun, entered, all-entered}
use Rattle.floats.specs.Floats.{◌⊖◌}
use Rattle.floats.specs.Constants.{freezing}
use Rattle.root.specs.Root.{celsius}
use Rattle.roots.specs.Many.{side}
use Rattle.pixels.proofs.degrees_block.Goals as goal

pub loop-i-init : goal.loop-i-init
loop-i-init c = (begun _, λ k l h. c.fourth_roots.ensures.at k h)

pub loop-i-preserved : goal.loop-i-preserved
unfolding celsius
loop-i-preserved c =
    let i = c.loop-i.i in
    let h : i < side = search rules in (
      entered c.loop-i.invariant.0 h (search rules) (c.degrees.ensures ∙ ap (λ (r : Float). r ⊖ freezing) (c.loop-i.invariant.1 i (le_refl i) h)),
      λ k l g. get_or-set_other c.loop-i.temperatures i k c.degrees.result nan (λ e. omega arith) ∙ c.loop-i.invariant.1 k (omega arith) g,
    )

pub returns : goal.returns
returns c = all-entered c.loop-i.invariant.0 (search rules)
