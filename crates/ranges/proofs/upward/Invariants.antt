use Rattle.std.proofs.Common.{◌≡◌}
use Rattle.ranges.specs.Coefficients.{coefficient_at}
use Rattle.ranges.specs.Inner.{Between}
use Rattle.ranges.proofs.upward.Given as goal

abbrev pub invariant-loop-at : goal.invariant-loop-at
invariant-loop-at l =
    (l.coefficient ≡ coefficient_at l.corners l.k_s_to l.basic_range l.at) × Between l.corners l.k_s_to l.basic_range l.basic_range l.at l.initial.coefficients l.coefficients
