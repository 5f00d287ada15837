-- `formulas::ptat_correction` meets its contract: the code is the formula. Assumes nothing.
use borrow.Author.Rules.{rules}
use Rattle.formulas.specs.Frame.{ptat_correction_of}
use Rattle.formulas.proofs.ptat_correction.Goals as goal

pub returns : goal.returns
unfolding ptat_correction_of
returns c = search rules
