use Rattle.std.proofs.Common.{◌≡◌}
use Rattle.ranges.specs.Coefficients.{zero_factor}
use Rattle.ranges.proofs.zero_factor.Given as goal

abbrev pub invariant-loop-at : goal.invariant-loop-at
invariant-loop-at l = zero_factor l.ranges l.corners l.k_s_to l.at ≡ zero_factor l.ranges l.corners l.k_s_to l.basic_range
