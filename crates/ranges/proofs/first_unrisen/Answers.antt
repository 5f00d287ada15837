-- `ranges::first_unrisen` meets its contract: in each iteration every corner from the second up to this one is above the one before it. Assumes nothing.
use Rattle.std.proofs.Common.{◌≡◌, ℕ, ◌-◌, List, ℤ, sym, refl, ap, ◌∙◌, ap₂, arith, to_z-of_z, w16, to_z, of_z, rules}
use Rattle.std.specs.Prelude.{int_le}
use Rattle.lists.specs.First.{first_from}
use Rattle.lists.proofs.First as first
use Rattle.ranges.specs.Corners.{corner_at, unrisen}
use Rattle.util.specs.Found.{found_below}
use Rattle.util.proofs.Found.{below-some, below-none}
use Rattle.ranges.proofs.first_unrisen.Invariants.{stands}
use Rattle.ranges.proofs.first_unrisen.Goals as goal

from-1 : (n : ℕ) (corners : List ℤ) → first_from (stands corners) 1 (n - 1) ≡ unrisen n corners
unfolding unrisen
from-1 n corners = refl

pub loop-range-init : goal.loop-range-init
loop-range-init c = from-1 _ _

pub returns-then-not_above : goal.returns-then-not_above
returns-then-not_above c =
    let l = c.loop-range in
    let own : to_z w16 (of_z w16 (corner_at c.args.corners.now l.range)) ≡ corner_at c.args.corners.now l.range = to_z-of_z {w = w16} (search rules) in
    let before : to_z w16 (of_z w16 (corner_at c.args.corners.now (l.range - 1))) ≡ corner_at c.args.corners.now (l.range - 1) = to_z-of_z {w = w16} (search rules) in
    let t : stands c.args.corners.now l.range ≡ c.not_above.result = sym (c.not_above.ensures ∙ ap₂ int_le own before) in
    let e = sym (first.found (stands c.args.corners.now) l.range _ (search rules) (t ∙ c.if-not_above.true)) ∙ l.invariant in
    sym (below-some c.args.ranges l.range (omega arith)) ∙ ap (found_below c.args.ranges) e

pub loop-range-preserved : goal.loop-range-preserved
loop-range-preserved c =
    let l = c.loop-range in
    let own : to_z w16 (of_z w16 (corner_at c.args.corners.now l.range)) ≡ corner_at c.args.corners.now l.range = to_z-of_z {w = w16} (search rules) in
    let before : to_z w16 (of_z w16 (corner_at c.args.corners.now (l.range - 1))) ≡ corner_at c.args.corners.now (l.range - 1) = to_z-of_z {w = w16} (search rules) in
    let t : stands c.args.corners.now l.range ≡ c.not_above.result = sym (c.not_above.ensures ∙ ap₂ int_le own before) in
    sym (first.further (stands c.args.corners.now) l.range _ (search rules) (t ∙ c.if-not_above.false)) ∙ l.invariant

pub returns : goal.returns
returns c =
    let l = c.loop-range in
    let n = c.args.ranges in
    let e : l.range ≡ n = omega arith in
    let end = sym (rw e at l.invariant) ∙ first.ended (stands c.args.corners.now) n in
    sym (below-none n n (omega arith)) ∙ ap (found_below n) (sym end)
