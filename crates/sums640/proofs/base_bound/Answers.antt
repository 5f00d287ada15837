-- `sums640::base_bound` meets its contract: it adds the bound of the average and both scaled powers. Assumes nothing.
use native.Mathlib.Omega.{arith}
use Rattle.sums640.proofs.base_bound.Goals as goal

pub returns : goal.returns
returns c = (omega arith, omega arith)
