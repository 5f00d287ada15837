-- `pixels::held_block` meets its contract: entry by entry. Assumes nothing.
use borrow.Author.Rules.{rules}
use Rattle.lists.proofs.Each.{begun, entered, all-entered}
use Rattle.pixels.proofs.held_block.Goals as goal

pub loop-i-init : goal.loop-i-init
loop-i-init c = begun _

pub loop-i-preserved : goal.loop-i-preserved
loop-i-preserved c = entered c.loop-i.invariant (search rules) (search rules) c.from_bits.ensures

pub returns : goal.returns
returns c = all-entered c.loop-i.invariant (search rules)
