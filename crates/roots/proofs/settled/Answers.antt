-- `roots::settled` meets its contract: entry by entry, a pattern that is not 0 is the root's. Assumes nothing.
use Rattle.std.proofs.Common.{◌≡◌, refl, arith, length-set}
use Rattle.floats.proofs.Nan.{number-below}
use Rattle.roots.specs.Many.{side}
use Rattle.roots.proofs.Open.{start, counted}
use Rattle.roots.proofs.settled.Goals as goal

pub loop-i-init : goal.loop-i-init
loop-i-init c = (omega arith, omega arith, refl, start _ _)

pub float_from_bits-roots : goal.float_from_bits-roots
float_from_bits-roots c = number-below _ (omega (arith, c.pattern_of-pattern.ensures.finite))

pub loop-i-preserved : goal.loop-i-preserved
loop-i-preserved c = (grind arith, grind arith, simp length-set c.loop-i.invariant.2, counted _ c.loop-i.invariant.3 (omega arith) c.pattern_of-pattern.ensures (λ e. grind arith) (λ h. grind arith))

pub returns : goal.returns
returns c = let e : c.loop-i.i ≡ side = omega arith in record { leaves = rw e at c.loop-i.invariant.3; roots_len_unchanged = c.loop-i.invariant.2 }
