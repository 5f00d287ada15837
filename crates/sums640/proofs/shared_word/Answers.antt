-- `sums640::shared_word` meets its contract, for each part of the list. Assumes nothing.
use borrow.Author.Tests.{lt-ltb, le-ltb}
use Rattle.sums640.specs.Inner.{shared_word}
use Rattle.sums640.proofs.shared_word.Goals as goal

pub returns-then-index-lt56 : goal.returns-then-index-lt56
unfolding shared_word
returns-then-index-lt56 c = rw (lt-ltb _ 56 c.if-index-lt56.true)

pub returns-then-index-lt112 : goal.returns-then-index-lt112
unfolding shared_word
returns-then-index-lt112 c = rw (le-ltb _ 56 c.if-index-lt56.false, lt-ltb _ 112 c.if-index-lt112.true)

pub returns : goal.returns
unfolding shared_word
returns c = rw (le-ltb _ 56 c.if-index-lt56.false, le-ltb _ 112 c.if-index-lt112.false)
