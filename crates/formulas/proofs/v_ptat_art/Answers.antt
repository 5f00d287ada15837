-- `formulas::v_ptat_art` meets its contract: by its callees' contracts. Assumes nothing.
use borrow.Author.Rules.{rules}
use Rattle.formulas.specs.Frame.{art_of}
use Rattle.formulas.proofs.v_ptat_art.Goals as goal

pub returns : goal.returns
unfolding art_of
returns c = rw c.ptat_denominator.ensures (search rules)
