-- `pixels::raise_ranges` meets its contract: entry by entry, each from its old value. Assumes nothing.
use borrow.Author.Rules.{rules}
use Prim.Native.Nat.{ℕ}
use mathlib.Core.Path.{refl, ap, ◌∙◌}
use native.Mathlib.Nat.{le_refl}
use native.Mathlib.Omega.{arith}
use lib.Seq.{get_or-set_other}
use lib.Ieee.{le}
use Rattle.lists.specs.Pick.{pick}
use Rattle.lists.proofs.Each.{begun, entered, all-entered}
use Rattle.pixels.specs.Inner.{v}
use Rattle.pixels.proofs.raise_ranges.Goals as goal

pub loop-i-init : goal.loop-i-init
loop-i-init c = (begun _, λ k h. refl)

pub loop-i-preserved : goal.loop-i-preserved
loop-i-preserved c =
    let i = c.loop-i.i in
    let own = c.loop-i.invariant.1 i (le_refl i) in (
      entered c.loop-i.invariant.0 (search rules) (search rules) (c.chosen.ensures ∙ ap (λ (n : ℕ). pick (le c.args.corner (v c.args.basic.now i)) c.args.range n) own),
      λ k h. get_or-set_other c.loop-i.found i k c.chosen.result 0 (λ e. omega arith) ∙ c.loop-i.invariant.1 k (omega arith),
    )

pub returns : goal.returns
returns c = all-entered c.loop-i.invariant.0 (search rules)
