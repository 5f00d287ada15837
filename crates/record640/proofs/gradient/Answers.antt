-- `record640::gradient` meets its contract, for a byte of 0 and any other. Assumes nothing.
use borrow.Author.Tests.{eq-eqb, ne_eqb}
use mathlib.Core.Path.{ap}
use Rattle.std.specs.Prelude.{Some}
use Rattle.record640.specs.Record.{gradient_of}
use Rattle.record640.proofs.gradient.Goals as goal

pub returns-then-word-eq0 : goal.returns-then-word-eq0
unfolding gradient_of
returns-then-word-eq0 c = rw (eq-eqb _ 0 c.if-word-eq0.true)

pub returns : goal.returns
unfolding gradient_of
returns c = rw (ne_eqb _ 0 c.if-word-eq0.false) (ap Some c.signed_over.ensures)
