-- `pixels::ranged_values` meets its contract: entry by entry. Assumes nothing.
use borrow.Author.Rules.{rules}
use Prim.Native.Nat.{◌<◌}
use mathlib.Core.Path.{◌≡◌, ap, ◌∙◌}
use native.Mathlib.Omega.{arith}
use lib.ListN.{length}
use mir.Facts.{to_z-of_z}
use mir.Syntax.{w16}
use mir.Val.{to_z, of_z}
use Rattle.floats.specs.Floats.{real}
use Rattle.ranges.specs.Corners.{corner_at}
use Rattle.lists.proofs.Each.{begun, entered, all-entered}
use Rattle.roots.specs.Many.{side}
use Rattle.pixels.proofs.Temperatures.{ranged-value}
use Rattle.pixels.proofs.ranged_values.Goals as goal

pub loop-i-init : goal.loop-i-init
loop-i-init c = begun _

pub offset_bounds-corners-r : goal.offset_bounds-corners-r
offset_bounds-corners-r c = let k : c.loop-i.i < side = search rules in let q = c.requires.by_index c.loop-i.i k in let e = c.wide-r.ensures in let h : c.wide-r.result < length c.args.tables.corners.now = omega arith in search rules

pub offset_bounds-k_s_to-r : goal.offset_bounds-k_s_to-r
offset_bounds-k_s_to-r c = let k : c.loop-i.i < side = search rules in let q = c.requires.by_index c.loop-i.i k in let e = c.wide-r.ensures in let h : c.wide-r.result < length c.args.tables.k_s_to.now = omega arith in search rules

pub offset_bounds-coefficients-r : goal.offset_bounds-coefficients-r
offset_bounds-coefficients-r c = let k : c.loop-i.i < side = search rules in let q = c.requires.by_index c.loop-i.i k in let e = c.wide-r.ensures in let h : c.wide-r.result < length c.args.tables.coefficients.now = omega arith in search rules

pub bounds-corners-r : goal.bounds-corners-r
bounds-corners-r c = let k : c.loop-i.i < side = search rules in let q = c.requires.by_index c.loop-i.i k in let e = c.wide-r.ensures in omega arith

pub bounds-k_s_to-r : goal.bounds-k_s_to-r
bounds-k_s_to-r c = let k : c.loop-i.i < side = search rules in let q = c.requires.by_index c.loop-i.i k in let e = c.wide-r.ensures in omega arith

pub bounds-coefficients-r : goal.bounds-coefficients-r
bounds-coefficients-r c = let k : c.loop-i.i < side = search rules in let q = c.requires.by_index c.loop-i.i k in let e = c.wide-r.ensures in omega arith

pub loop-i-preserved : goal.loop-i-preserved
loop-i-preserved c =
    let corner = corner_at c.args.tables.corners.now c.wide-r.result in
    let own : to_z w16 (of_z w16 corner) ≡ corner = to_z-of_z {w = w16} (search rules) in
    entered c.loop-i.invariant (search rules) (search rules) (ranged-value _ _ _ _ _ _ c.wide-r.ensures (c.whole.ensures ∙ ap real own) c.sensitivity-a.ensures c.ranged_value.ensures)

pub returns : goal.returns
returns c = all-entered c.loop-i.invariant (search rules)
