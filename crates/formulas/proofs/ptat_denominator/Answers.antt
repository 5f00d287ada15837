-- `formulas::ptat_denominator` meets its contract: the code is the formula. Assumes nothing.
use borrow.Author.Rules.{rules}
use Rattle.formulas.specs.Frame.{denominator_of}
use Rattle.formulas.proofs.ptat_denominator.Goals as goal

pub returns : goal.returns
unfolding denominator_of
returns c = search rules
