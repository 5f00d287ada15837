-- `tables::fill_alpha` meets its contract: it fills pixel after pixel, each with the reference of its row. Assumes nothing.
use mathlib.Core.Path.{◌≡◌, sym, ap, ap₂, ◌∙◌}
use mathlib.Core.Bool.{true}
use mathlib.Core.List.{List}
use Prim.Native.Nat.{ℕ, ◌/◌, ◌<◌}
use native.Mathlib.Omega.{arith}
use lib.Dec.{lit≤}
use lib.IntN.{pos}
use lib.ListN.{get_or, replicate}
use lib.Ieee.{Float}
use Rattle.lists.specs.Written.{filled}
use Rattle.lists.proofs.Fill as fill
use Rattle.lists.proofs.Fill.{Filling}
use Rattle.lists.proofs.Written.{written_at}
use Rattle.floats.specs.Floats.{◌⊗◌, ◌⊘◌, real}
use Rattle.floats.specs.Constants.{plus_zero, alpha_full}
use Rattle.map.proofs.Words.{alpha-at}
use Rattle.card.specs.Inner.{at}
use Rattle.tables.specs.Tables.{reference, alpha_at}
use Rattle.tables.proofs.fill_alpha.Goals as goal

-- entry `row` of the array is the reference of that row
row_at : (w : ℕ → ℕ) (z : Float) (row : ℕ) → row < 6 → get_or (filled (reference w) 6 (replicate 6 plus_zero)) row z ≡ reference w row
row_at w z row h = written_at (λ (k : ℕ). true) (reference w) 6 (replicate 6 plus_zero) row z (lit≤ tt) h

pub loop-i-preserved : goal.loop-i-preserved
unfolding alpha_at
loop-i-preserved c =
    let l = c.loop-i in
    let b = c in
    let w = at b.args.words.now in
    let t = c.loop-i-test.true in
    let h : l.i / 32 < 6 = omega arith in
    fill.one_more _ l.invariant t
    (c.alpha_of.ensures
    ∙ ap₂ (λ (k : ℕ) (x : Float). real (pos (w k)) ⊘ alpha_full ⊗ x) (sym (alpha-at l.i t))
    (ap (λ (r : List Float). get_or r (l.i / 32) _) b.row_references-references.ensures ∙ row_at w _ (l.i / 32) h))

pub loop-i-init : goal.loop-i-init
loop-i-init c = fill.start _ _ _
