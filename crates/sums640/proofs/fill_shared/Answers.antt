-- `sums640::fill_shared` meets its contract: it fills entry after entry. Assumes nothing.
use mathlib.Core.Path.{◌∙◌}
use borrow.Author.Rules.{sfits_of}
use mir.Syntax.{w32}
use mir.Facts.{to_z-of_z}
use Rattle.lists.proofs.Each as each
use Rattle.lists.proofs.Each.{Entering}
use Rattle.sums640.proofs.fill_shared.Goals as goal

pub loop-index-init : goal.loop-index-init
loop-index-init c = each.begun _

pub loop-index-preserved : goal.loop-index-preserved
loop-index-preserved c = each.entered c.loop-index.invariant c.loop-index-test.true c.requires.1 (to_z-of_z {w = w32} (sfits_of c.shared_at.type_inv) ∙ c.shared_at.ensures)

pub returns : goal.returns
returns c = each.all-entered c.loop-index.invariant c.loop-index-test.false
