use Prim.Native.Nat.{◌-◌}
use lib.ListN.{replicate}
use Rattle.lists.proofs.Fill.{Filling}
use Rattle.floats.specs.Constants.{plus_zero}
use Rattle.card.specs.Inner.{at}
use Rattle.tables.specs.Tables.{reference}
use Rattle.tables.proofs.row_references.Given as goal

abbrev pub invariant-loop-row : goal.invariant-loop-row
invariant-loop-row l = Filling (reference (at l.words)) 6 (replicate 6 plus_zero) l.references l.row

abbrev pub decreases-loop-row : goal.decreases-loop-row
decreases-loop-row l = 6 - l.row
