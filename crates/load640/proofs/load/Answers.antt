-- `load640::load` meets its contract: the gate decides, and if it passes the tables are filled. Assumes nothing.
use mathlib.Core.Path.{sym}
use Rattle.load640.specs.Load.{tables}
use Rattle.load640.proofs.Opened.{opened}
use Rattle.load640.proofs.load.Goals as goal

pub fill_all-calibration-requires-clause-passed : goal.fill_all-calibration-requires-clause-passed
fill_all-calibration-requires-clause-passed c =
    let a = c.args in
    opened a.image.now a.basic_range (tables a.offsets.now a.alpha.now a.k_ta.now) (sym (rw c.shortest_of-table.ensures at c.in_ok-gate.ensures.value))
