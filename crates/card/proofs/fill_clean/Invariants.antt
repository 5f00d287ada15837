use Prim.Native.Nat.{◌-◌, ◌≤◌}
use Rattle.card.specs.Card.{data_at}
use Rattle.card.specs.Inner.{FilledOn}
use Rattle.card.proofs.fill_clean.Given as goal

abbrev pub invariant-loop-i : goal.invariant-loop-i
invariant-loop-i l = (l.i ≤ l.n) × FilledOn (data_at l.image) l.first l.i l.initial.words l.words

abbrev pub decreases-loop-i : goal.decreases-loop-i
decreases-loop-i l = l.n - l.i
