-- `formulas::final_value` meets its contract. Assumes nothing.
use mathlib.Core.Path.{refl}
use Rattle.formulas.specs.Inner.{lifted_from}
use Rattle.formulas.proofs.final_value.Goals as goal

pub returns : goal.returns
unfolding lifted_from
returns c = refl
