-- `root::fourth_positive` meets its contract: each root's significand makes the bits of the nearest root, and there is only one. Assumes nothing.
use Rattle.root.proofs.Digits.{fourth}
use Rattle.root.proofs.fourth_positive.Goals as goal

pub returns : goal.returns
returns c = fourth c.args.b c.lifted.result c.twice.result c.lifted.ensures c.twice.ensures
