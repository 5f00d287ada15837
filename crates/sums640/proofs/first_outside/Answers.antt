-- `sums640::first_outside` meets its contract: none is outside where averages and scales say so, else no pixel up to this one is. Assumes nothing.
use Prim.Native.Nat.{ℕ, ◌-◌}
use mathlib.Core.Path.{◌≡◌, refl, sym, ap, ◌∙◌}
use native.Mathlib.Omega.{arith}
use Rattle.lists.specs.First.{first_from}
use Rattle.lists.proofs.First as first
use Rattle.util.specs.Found.{found_below}
use Rattle.util.proofs.Found.{below-some, below-none}
use Rattle.sums640.specs.Sums.{pixel_count, outside_at, first_outside}
use Rattle.sums640.proofs.first_outside.Goals as goal

from-0 : (w : ℕ → ℕ) → first_from (outside_at w) 0 (pixel_count - 0) ≡ first_outside w
unfolding first_outside
from-0 w = refl

pub returns-then-mild : goal.returns-then-mild
returns-then-mild c = sym (below-none _ _ (omega (arith, c.mild.ensures c.if-mild.true)))

pub loop-pixel-init : goal.loop-pixel-init
loop-pixel-init c = (omega arith, from-0 _)

pub outside_at-requires : goal.outside_at-requires
outside_at-requires c = record {
  pixel_lt_pixel_count = (c.loop-pixel-test.true, c.requires.0, c.requires.1);
  shared = c.requires.2;
}

pub returns-then-outside_at : goal.returns-then-outside_at
returns-then-outside_at c =
    let l = c.loop-pixel in
    let e = sym (first.found _ l.pixel pixel_count (omega arith) (sym c.outside_at.ensures ∙ c.if-outside_at.true)) ∙ l.invariant.1 in
    sym (below-some pixel_count l.pixel (omega arith)) ∙ ap (found_below pixel_count) e

pub loop-pixel-preserved : goal.loop-pixel-preserved
loop-pixel-preserved c = let l = c.loop-pixel in (omega arith, sym (first.further _ l.pixel pixel_count (omega arith) (sym c.outside_at.ensures ∙ c.if-outside_at.false)) ∙ l.invariant.1)

pub returns : goal.returns
returns c =
    let l = c.loop-pixel in
    let e : l.pixel ≡ pixel_count = omega arith in
    sym (below-none pixel_count pixel_count (omega arith)) ∙ ap (found_below pixel_count) (sym (first.ended _ pixel_count) ∙ (rw e at l.invariant.1))
