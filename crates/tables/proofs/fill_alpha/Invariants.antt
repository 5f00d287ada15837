use Prim.Native.Nat.{◌-◌}
use Rattle.lists.proofs.Fill.{Filling}
use Rattle.map.specs.Map.{frame_pixels}
use Rattle.card.specs.Inner.{at}
use Rattle.tables.specs.Tables.{alpha_at}
use Rattle.tables.proofs.fill_alpha.Given as goal

abbrev pub invariant-loop-i : goal.invariant-loop-i
invariant-loop-i l = Filling (alpha_at (at l.words)) frame_pixels l.initial.table l.table l.i

abbrev pub decreases-loop-i : goal.decreases-loop-i
decreases-loop-i l = frame_pixels - l.i
