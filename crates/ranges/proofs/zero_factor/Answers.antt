-- `ranges::zero_factor` meets its contract: in each iteration no growth from this range up to the basic one is zero. Assumes nothing.
use Rattle.std.proofs.Common.{◌≡◌, ℕ, suc, ◌-◌, Bool, true, false, List, ℤ, sym, refl, ap, ◌∙◌, arith}
use lib.Ieee.{Float}
use Rattle.lists.specs.Pick.{pick}
use Rattle.lists.specs.Last.{last_below}
use Rattle.floats.specs.Floats.{is_zero}
use Rattle.ranges.specs.Coefficients.{growth, zero_factor}
use Rattle.util.specs.Found.{found_below}
use Rattle.util.proofs.Found.{below-some, below-none}
use Rattle.ranges.proofs.zero_factor.Goals as goal

-- the search either finds the range below or goes on from there
next : (n : ℕ) (t : List ℤ) (k : List Float) (r m : ℕ) → r ≡ suc m → zero_factor n t k r ≡ pick (is_zero (growth t k m)) m (zero_factor n t k m)
unfolding zero_factor last_below
next n t k r m e = rw e

none : (n : ℕ) (t : List ℤ) (k : List Float) → zero_factor n t k 0 ≡ n
unfolding zero_factor last_below
none n t k = refl

-- what this iteration finds about the range below
found : (n : ℕ) (t : List ℤ) (k : List Float) (at m b : ℕ) (g : Float) (o : Bool) → is_zero g ≡ o → g ≡ growth t k m → at ≡ suc m → zero_factor n t k at ≡ zero_factor n t k b
    → pick o m (zero_factor n t k m) ≡ zero_factor n t k b
found n t k at m b g o e h s i =
    ap (λ (b : Bool). pick b m (zero_factor n t k m)) (sym e ∙ ap is_zero h)
    ∙ sym (next n t k at m s)
    ∙ i

pub returns-then-growth : goal.returns-then-growth
returns-then-growth c =
    let e = found c.args.ranges _ _ c.loop-at.at (c.loop-at.at - 1) _ _ true c.if-growth.true c.growth.ensures (omega arith) c.loop-at.invariant in
    sym (below-some c.args.ranges (c.loop-at.at - 1) (omega arith)) ∙ ap (found_below c.args.ranges) e

pub loop-at-preserved : goal.loop-at-preserved
loop-at-preserved c = found c.args.ranges _ _ c.loop-at.at _ _ _ false c.if-growth.false c.growth.ensures (omega arith) c.loop-at.invariant

pub returns : goal.returns
returns c =
    let e : c.loop-at.at ≡ 0 = omega arith in
    let none = sym (none _ _ _) ∙ (rw e at c.loop-at.invariant) in
    sym (below-none _ _ (omega arith)) ∙ ap (found_below c.args.ranges) none
