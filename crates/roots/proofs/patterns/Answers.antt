-- `roots::patterns` meets its contract: entry by entry. Assumes nothing.
use Rattle.std.proofs.Common.{◌≡◌, arith}
use Rattle.lists.proofs.Each.{none, one_kept}
use Rattle.lists.proofs.Fill.{start, one_more, done}
use Rattle.roots.specs.Many.{side}
use Rattle.roots.proofs.patterns.Goals as goal

pub loop-i-init : goal.loop-i-init
loop-i-init c = (start _ _ _, none _)

pub loop-i-preserved : goal.loop-i-preserved
loop-i-preserved c = (one_more _ c.loop-i.invariant.0 c.loop-i-test.true c.bits_of.ensures.0, one_kept c.loop-i.invariant.1 c.bits_of.ensures.1)

pub returns : goal.returns
returns c =
    let e : c.loop-i.i ≡ side = let w = c.loop-i.invariant.0.within in omega arith in
    record { bits_after = done _ c.loop-i.invariant.0 c.loop-i-test.false; each = rw e at c.loop-i.invariant.1 }
