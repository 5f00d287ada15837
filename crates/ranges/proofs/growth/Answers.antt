-- `ranges::growth` meets its contract: by its callees' contracts. Assumes nothing.
use Rattle.std.proofs.Common.{◌≡◌, ◌+◌, ◌∙◌, ap₂, refl, to_z-of_z, w16, w32, to_z, of_z, rules}
use Rattle.std.specs.Prelude.{◌-ℤ◌}
use Rattle.ranges.specs.Corners.{corner_at}
use Rattle.ranges.specs.Coefficients.{growth}
use Rattle.ranges.proofs.growth.Goals as goal

pub returns : goal.returns
unfolding growth
returns c =
    let a = c.args in
    let next : to_z w16 (of_z w16 (corner_at a.corners.now (a.range + 1))) ≡ corner_at a.corners.now (a.range + 1) = to_z-of_z {w = w16} (search rules) in
    let own : to_z w16 (of_z w16 (corner_at a.corners.now a.range)) ≡ corner_at a.corners.now a.range = to_z-of_z {w = w16} (search rules) in
    let back : to_z w32 (of_z w32 c.difference.result) ≡ c.difference.result = to_z-of_z {w = w32} (search rules) in
    let difference : c.difference.result ≡ corner_at a.corners.now (a.range + 1) -ℤ corner_at a.corners.now a.range = c.difference.ensures.0 ∙ ap₂ ◌-ℤ◌ next own in
    rw (c.nearest_i32_to_f32.ensures, back, difference) refl
