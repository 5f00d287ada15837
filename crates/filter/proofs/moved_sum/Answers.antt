-- `filter::moved_sum` meets its contract: both parts are small, so their sum fits. Assumes nothing.
use mathlib.Core.Path.{◌≡◌, ap, ap₂, ◌∙◌}
use native.Mathlib.Omega.{arith}
use Prim.Native.Nat.{◌<◌, ◌≤◌}
use lib.IntN.{ℤ, ◌+ℤ◌, ◌-ℤ◌}
use lib.Signed.{mag}
use mir.Facts.{to_z-of_z}
use mir.Syntax.{w32}
use mir.Val.{to_z, of_z}
use Rattle.util.proofs.Range.{sum-mag, back32}
use Rattle.filter.specs.Filter.{kept}
use Rattle.filter.proofs.moved_sum.Goals as goal

-- the bound, for a sum within 20 bits and a difference of two readings
module _ (s d : ℤ) (h : mag s < 524288) (l : mag d ≤ 65536) where
  pub parts : to_z w32 (of_z w32 s) +ℤ to_z w32 (of_z w32 d) ≡ s +ℤ d
  parts = ap₂ ◌+ℤ◌ (back32 s (omega arith)) (back32 d (omega arith))

  pub fits : mag (s +ℤ d) < 2147483648
  fits = let m = sum-mag 524287 65536 600000 s d (omega arith) (omega arith) l in omega arith

  pub whole : to_z w32 (of_z w32 (to_z w32 (of_z w32 s) +ℤ to_z w32 (of_z w32 d))) ≡ s +ℤ d
  whole = ap (λ (x : ℤ). to_z w32 (of_z w32 x)) parts ∙ back32 (s +ℤ d) fits

pub returns : goal.returns
returns c =
    let a = c in
    let s = c.kept in
    let d = c.difference in
    whole s.result d.result s.ensures.1 d.ensures.1
    ∙ ap₂ ◌+ℤ◌ (s.ensures.0 ∙ ap kept (to_z-of_z a.ranges.sum)) (d.ensures.0 ∙ ap₂ ◌-ℤ◌ (to_z-of_z a.ranges.reading) (to_z-of_z a.ranges.oldest))
