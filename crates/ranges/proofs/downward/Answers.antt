-- `ranges::downward` meets its contract: in each iteration the coefficients are right from this range up to the basic one. Assumes nothing.
use Rattle.std.proofs.Common.{◌≡◌, ℕ, ◌+◌, ◌-◌, sym, ◌∙◌, subst, ap₂, arith}
use Rattle.floats.specs.Floats.{◌⊘◌}
use Rattle.ranges.specs.Inner.{Between}
use Rattle.ranges.proofs.Steps.{at-basic, next-below}
use Rattle.ranges.proofs.Climb.{none, one_down}
use Rattle.ranges.proofs.downward.Goals as goal

pub loop-at-init : goal.loop-at-init
loop-at-init c = (sym (at-basic _ _ _), none _ _ _ _ _)

pub loop-at-preserved : goal.loop-at-preserved
loop-at-preserved c =
    let a = c.args in
    let l = c.loop-at in
    let i = l.invariant in
    let q : l.at - 1 + 1 ≡ l.at = omega arith in
    let e = ap₂ ◌⊘◌ i.0 c.growth-coefficient.ensures ∙ sym (rw q at (next-below a.corners.now a.k_s_to.now a.basic_range (l.at - 1) (omega arith))) in
    let before = subst (λ (n : ℕ). Between a.corners.now a.k_s_to.now a.basic_range n a.basic_range a.coefficients.now l.coefficients) (sym q) i.1 in
    (e, one_down _ _ _ _ before (omega arith) (omega arith) e)
