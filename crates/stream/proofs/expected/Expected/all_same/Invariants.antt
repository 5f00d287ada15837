use Rattle.stream.proofs.Passing.{Agrees}
use Rattle.stream.proofs.expected.Expected.all_same.Given as goal

abbrev pub invariant-loop-number : goal.invariant-loop-number
invariant-loop-number g l = Agrees g.T.Number.stands_at l.numbers l.fn.self l.self g.T.Number.SIZE l.number-index
