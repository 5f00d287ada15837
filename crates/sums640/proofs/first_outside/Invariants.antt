use Prim.Native.Nat.{◌-◌, ◌≤◌}
use mathlib.Core.Path.{◌≡◌}
use Rattle.lists.specs.First.{first_from}
use Rattle.util.specs.Words.{word_at}
use Rattle.sums640.specs.Sums.{pixel_count, outside_at, first_outside}
use Rattle.sums640.proofs.first_outside.Given as goal

abbrev pub invariant-loop-pixel : goal.invariant-loop-pixel
invariant-loop-pixel l = (l.pixel ≤ pixel_count) × (first_from (outside_at (word_at l.image)) l.pixel (pixel_count - l.pixel) ≡ first_outside (word_at l.image))

abbrev pub decreases-loop-pixel : goal.decreases-loop-pixel
decreases-loop-pixel l = pixel_count - l.pixel
