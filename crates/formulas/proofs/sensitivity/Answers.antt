-- `formulas::sensitivity` meets its contract: by its callees' contracts. Assumes nothing.
use mathlib.Core.Path.{refl}
use Rattle.formulas.specs.Inner.{lifted_sensitivity}
use Rattle.formulas.proofs.sensitivity.Goals as goal

pub returns : goal.returns
unfolding lifted_sensitivity
returns c = rw c.deduct.ensures refl
