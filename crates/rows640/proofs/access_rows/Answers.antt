-- `rows640::access_rows` meets its contract: entry by entry. Assumes nothing.
use borrow.Author.Rules.{rules}
use Rattle.lists.proofs.Each.{begun, entered, all-entered}
use Rattle.rows640.proofs.access_rows.Goals as goal

pub loop-k-init : goal.loop-k-init
loop-k-init c = begun _

pub loop-k-preserved : goal.loop-k-preserved
loop-k-preserved c = entered c.loop-k.invariant c.loop-k-test.true (search rules) c.access_at.ensures

pub returns : goal.returns
returns c = all-entered c.loop-k.invariant c.loop-k-test.false
