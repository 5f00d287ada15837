-- No more estimates have missed than numbers were tried, so the counts do not overflow.
use Rattle.std.proofs.Common.{◌≤◌}
use Rattle.root_sweep.proofs.sweep.Given as goal

abbrev pub invariant-loop-n : goal.invariant-loop-n
invariant-loop-n l = (l.first ≤ l.n) × (l.second ≤ l.n)
