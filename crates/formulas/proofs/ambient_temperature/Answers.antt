-- `formulas::ambient_temperature` meets its contract: by its callees' contracts. Assumes nothing.
use mathlib.Core.Path.{refl}
use Rattle.formulas.specs.Frame.{ambient_of}
use Rattle.formulas.proofs.ambient_temperature.Goals as goal

pub returns : goal.returns
unfolding ambient_of
returns c = rw c.ptat_correction.ensures refl
