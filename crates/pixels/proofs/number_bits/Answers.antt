-- `pixels::number_bits` meets its contract: entry by entry. Assumes nothing.
use borrow.Author.Rules.{rules}
use Rattle.lists.proofs.Each.{begun, entered, all-entered}
use Rattle.pixels.proofs.number_bits.Goals as goal

pub loop-i-init : goal.loop-i-init
loop-i-init c = (begun _, begun _)

pub loop-i-preserved : goal.loop-i-preserved
loop-i-preserved c = (entered c.loop-i.invariant.0 (search rules) (search rules) c.to_bits.ensures, entered c.loop-i.invariant.1 (search rules) (search rules) c.lost_flag.ensures)

pub returns : goal.returns
returns c = record { bits_are = all-entered c.loop-i.invariant.0 (search rules); flags_are = all-entered c.loop-i.invariant.1 (search rules) }
