-- `pixels::under_roots` meets its contract: entry by entry. Assumes nothing.
use borrow.Author.Rules.{rules}
use mathlib.Core.Path.{ap, ◌∙◌}
use lib.Ieee.{Float}
use Rattle.lists.proofs.Each.{begun, entered, all-entered}
use Rattle.formulas.specs.Inner.{lifted_under}
use Rattle.pixels.specs.Inner.{under_at, v}
use Rattle.pixels.proofs.under_roots.Goals as goal

pub loop-i-init : goal.loop-i-init
loop-i-init c = begun _

pub loop-i-preserved : goal.loop-i-preserved
unfolding under_at
loop-i-preserved c =
    let a = c.args in
    let value = c.under_root.ensures ∙ ap (λ (s : Float). lifted_under (v a.numbers.now c.loop-i.i) s a.common) c.sensitivity-a.ensures in
    entered c.loop-i.invariant (search rules) (search rules) value

pub returns : goal.returns
returns c = all-entered c.loop-i.invariant (search rules)
