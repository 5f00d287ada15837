-- `formulas::under_root` meets its contract: by its callee's contract. Assumes nothing.
use mathlib.Core.Path.{refl}
use Rattle.formulas.specs.Inner.{lifted_under}
use Rattle.formulas.proofs.under_root.Goals as goal

pub returns : goal.returns
unfolding lifted_under
returns c = rw c.fourth_power.ensures refl
