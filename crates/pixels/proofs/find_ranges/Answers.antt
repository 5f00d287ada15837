-- `pixels::find_ranges` meets its contract: each entry is the last range so far that its temperature reaches. Assumes nothing.
use borrow.Author.Rules.{rules}
use Prim.Native.Nat.{ℕ}
use mathlib.Core.Path.{◌≡◌, refl, ap, ◌∙◌}
use native.Mathlib.Omega.{arith}
use mir.Facts.{to_z-of_z}
use mir.Syntax.{w16}
use mir.Val.{to_z, of_z}
use Rattle.lists.specs.Last.{last_below}
use Rattle.floats.specs.Floats.{real}
use Rattle.ranges.specs.Corners.{corner_at, reaches}
use Rattle.pixels.specs.Inner.{v}
use Rattle.pixels.proofs.Temperatures.{next-range, none-looked, all-looked}
use Rattle.pixels.proofs.find_ranges.Goals as goal

pub loop-range-init : goal.loop-range-init
loop-range-init c = (omega arith, refl, record { at = λ i h. c.requires.3.at i h ∙ none-looked c.args.corners.now (v c.args.basic.now i) })

pub raise_ranges-requires : goal.raise_ranges-requires
raise_ranges-requires c = let l = c.loop-range.invariant.1 in (search rules, omega arith)

pub loop-range-preserved : goal.loop-range-preserved
loop-range-preserved c =
    let corners = c.args.corners.now in
    let corner = corner_at corners c.wide-at.result in
    let own : to_z w16 (of_z w16 corner) ≡ corner = to_z-of_z {w = w16} (search rules) in
    let x = c.whole.ensures ∙ ap real own ∙ ap (λ (r : ℕ). real (corner_at corners r)) c.wide-at.ensures in (
      omega arith,
      search rules,
      record { at = λ i h. c.raise_ranges.ensures.at i h ∙ next-range corners (v c.args.basic.now i) c.loop-range.range x (c.loop-range.invariant.2.at i h) },
    )

pub returns : goal.returns
returns c =
    let e : c.loop-range.range ≡ c.args.ranges = omega arith in
    record { at = λ i h. c.loop-range.invariant.2.at i h ∙ ap (λ (n : ℕ). last_below (reaches c.args.corners.now (v c.args.basic.now i)) 0 n) e ∙ all-looked c.args.ranges c.args.corners.now (v c.args.basic.now i) }
