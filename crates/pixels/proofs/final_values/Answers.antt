-- `pixels::final_values` meets its contract: entry by entry. Assumes nothing.
use borrow.Author.Rules.{rules}
use mathlib.Core.Path.{ap, ◌∙◌}
use lib.Ieee.{Float}
use Rattle.lists.proofs.Each.{begun, entered, all-entered}
use Rattle.formulas.specs.Inner.{lifted_from}
use Rattle.pixels.specs.Inner.{rooted_at, v}
use Rattle.pixels.proofs.final_values.Goals as goal

pub loop-i-init : goal.loop-i-init
loop-i-init c = begun _

pub loop-i-preserved : goal.loop-i-preserved
unfolding rooted_at
loop-i-preserved c =
    let a = c.args in
    let i = c.loop-i.i in
    let value = c.final_value.ensures ∙ ap (λ (s : Float). lifted_from (v a.numbers.now i) s (v a.roots.now i) a.common) c.sensitivity-a.ensures in
    entered c.loop-i.invariant (search rules) (search rules) value

pub returns : goal.returns
returns c = all-entered c.loop-i.invariant (search rules)
