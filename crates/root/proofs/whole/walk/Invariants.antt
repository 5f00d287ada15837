use Rattle.std.proofs.Common.{◌+◌, ◌-◌, ◌*◌, ◌≤◌}
use Rattle.root.proofs.whole.walk.Given as goal

abbrev pub invariant-loop-q : goal.invariant-loop-q
invariant-loop-q l = l.q ≤ 0xFFFFFFFF

abbrev pub decreases-loop-q : goal.decreases-loop-q
decreases-loop-q l = 0xFFFFFFFF - l.q

abbrev pub invariant-loop-q-2 : goal.invariant-loop-q-2
invariant-loop-q-2 l = (l.q ≤ 0xFFFFFFFF) × (l.n ≤ l.q * l.q + l.q)

abbrev pub decreases-loop-q-2 : goal.decreases-loop-q-2
decreases-loop-q-2 l = l.q
