-- `rows640::write_mask` meets its contract: refused, or entry after entry. Assumes nothing.
use borrow.Author.Tests.{lt-ltb, le-ltb}
use Prim.Native.Nat.{ℕ}
use mathlib.Core.Path.{refl, ap, ◌∙◌}
use native.Mathlib.Omega.{arith}
use lib.ListN.{length}
use Rattle.lists.specs.Written.{filled}
use Rattle.lists.proofs.Fill as fill
use Rattle.lists.proofs.Fill.{Filling}
use Rattle.refusal.specs.Order.{first_of}
use Rattle.rows640.specs.Mask.{pixel_count, mask_at}
use Rattle.rows640.proofs.write_mask.Goals as goal

pub returns-then-mask-lt-NUM_PIXELS : goal.returns-then-mask-lt-NUM_PIXELS
unfolding first_of
returns-then-mask-lt-NUM_PIXELS c = record { verdict = simp (lt-ltb (length c.args.mask.now) pixel_count (omega arith)); lent = refl }

pub loop-pixel-init : goal.loop-pixel-init
loop-pixel-init c = fill.start _ _ _

pub loop-pixel-preserved : goal.loop-pixel-preserved
loop-pixel-preserved c = fill.one_more _ c.loop-pixel.invariant c.loop-pixel-test.true c.mask_at.ensures

pub returns : goal.returns
unfolding first_of
returns c =
    let a = c.args in
    record {
      verdict = simp (le-ltb (length a.mask.now) pixel_count (omega arith));
      lent = fill.done _ c.loop-pixel.invariant c.loop-pixel-test.false ∙ ap (λ (n : ℕ). filled (mask_at n a.pattern) pixel_count a.mask.now) c.number_of-number.ensures.value;
    }
