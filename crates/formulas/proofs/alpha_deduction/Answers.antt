-- `formulas::alpha_deduction` meets its contract: for each case. Assumes nothing.
use mathlib.Core.Path.{refl}
use Rattle.formulas.specs.Inner.{alpha_deduction_of}
use Rattle.formulas.proofs.alpha_deduction.Goals as goal

pub returns-in-Some : goal.returns-in-Some
unfolding alpha_deduction_of
returns-in-Some c = rw c.in-Some.is refl

pub returns-in-None : goal.returns-in-None
unfolding alpha_deduction_of
returns-in-None c = rw c.in-None.is refl
