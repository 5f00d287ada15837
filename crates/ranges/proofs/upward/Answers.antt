-- `ranges::upward` meets its contract: in each iteration the coefficients are right from the basic range up to this one. Assumes nothing.
use Rattle.std.proofs.Common.{sym, ◌∙◌, ap₂, arith}
use Rattle.floats.specs.Floats.{◌⊗◌}
use Rattle.ranges.proofs.Steps.{at-basic, next-above}
use Rattle.ranges.proofs.Climb.{none, one_up}
use Rattle.ranges.proofs.upward.Goals as goal

pub loop-at-init : goal.loop-at-init
loop-at-init c = (sym (at-basic _ _ _), none _ _ _ _ _)

pub loop-at-preserved : goal.loop-at-preserved
loop-at-preserved c =
    let i = c.loop-at.invariant in
    let e = ap₂ ◌⊗◌ i.0 c.growth-coefficient.ensures ∙ sym (next-above _ _ _ c.loop-at.at (omega arith)) in
    (e, one_up _ _ _ _ i.1 (omega arith) i.0)
