-- `formulas::sensitivity_correction_coefficient` meets its contract: the code is the formula. Assumes nothing.
use borrow.Author.Rules.{rules}
use Rattle.formulas.specs.Inner.{correction_of}
use Rattle.formulas.proofs.sensitivity_correction_coefficient.Goals as goal

pub returns : goal.returns
unfolding correction_of
returns c = search rules
