-- `formulas::common_to_data` meets its contract: by its callees' contracts. Assumes nothing.
use mathlib.Core.Path.{refl}
use Rattle.formulas.specs.Inner.{common_to_of}
use Rattle.formulas.proofs.common_to_data.Goals as goal

pub returns : goal.returns
unfolding common_to_of
returns c =
    rw (c.alpha_deduction.ensures, c.sensitivity_correction_coefficient.ensures, c.t_ar.ensures, c.reflected_temperature-t_r.ensures) refl
