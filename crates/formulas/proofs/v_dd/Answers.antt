-- `formulas::v_dd` meets its contract: the code is the formula. Assumes nothing.
use borrow.Author.Rules.{rules}
use Rattle.formulas.specs.Frame.{supply_of}
use Rattle.formulas.proofs.v_dd.Goals as goal

pub returns : goal.returns
unfolding supply_of
returns c = search rules
