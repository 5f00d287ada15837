-- `sums640::fill` meets its contract: entry after entry. Assumes nothing.
use Rattle.lists.proofs.Fill as fill
use Rattle.lists.proofs.Fill.{Filling}
use Rattle.sums640.proofs.fill.Goals as goal

pub loop-pixel-init : goal.loop-pixel-init
loop-pixel-init g c = λ value law. fill.start _ _ _

pub loop-pixel-preserved : goal.loop-pixel-preserved
loop-pixel-preserved g c = λ value law. fill.one_more _ (c.loop-pixel.invariant value law) c.loop-pixel-test.true (law _ _ c.loop-pixel-test.true c.at.ensures)

pub returns : goal.returns
returns g c = λ value law. fill.done _ (c.loop-pixel.invariant value law) c.loop-pixel-test.false
