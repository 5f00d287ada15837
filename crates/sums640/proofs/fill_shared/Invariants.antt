use mathlib.Core.Path.{◌≡◌}
use Prim.Native.Nat.{◌-◌}
use lib.IntN.{pos}
use Rattle.lists.proofs.Each.{Entering}
use Rattle.util.specs.Words.{word_at}
use Rattle.sums640.specs.Inner.{shared_count, shared_at}
use Rattle.sums640.proofs.fill_shared.Given as goal

abbrev pub invariant-loop-index : goal.invariant-loop-index
invariant-loop-index l = Entering (λ k z. z ≡ shared_at (word_at l.image) k) (pos 0) shared_count l.initial.shared l.shared l.index

abbrev pub decreases-loop-index : goal.decreases-loop-index
decreases-loop-index l = shared_count - l.index
