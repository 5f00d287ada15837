use Rattle.std.proofs.Common.{◌≡◌, ℕ, ◌<◌}
use Rattle.lists.proofs.Fill.{Filling}
use Rattle.sums640.specs.Sums.{pixel_count}
use Rattle.sums640.proofs.fill.Given as goal

abbrev pub invariant-loop-pixel : goal.invariant-loop-pixel
invariant-loop-pixel g l =
    (value : ℕ → _) → ((pixel : ℕ) (r : _) → pixel < pixel_count → goal.F-post g l.at pixel r → r ≡ value pixel) → Filling value pixel_count l.initial.table l.table l.pixel
