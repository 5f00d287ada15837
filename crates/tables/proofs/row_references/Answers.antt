-- `tables::row_references` meets its contract: it fills row after row. Assumes nothing.
use Rattle.lists.proofs.Fill as fill
use Rattle.lists.proofs.Fill.{Filling}
use Rattle.tables.proofs.row_references.Goals as goal

pub loop-row-preserved : goal.loop-row-preserved
loop-row-preserved c = fill.one_more _ c.loop-row.invariant c.loop-row-test.true c.row_reference.ensures

pub loop-row-init : goal.loop-row-init
loop-row-init c = fill.start _ _ _
