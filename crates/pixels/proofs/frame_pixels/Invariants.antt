use Prim.Native.Nat.{◌*◌, ◌-◌, ◌≤◌}
use Rattle.roots.specs.Many.{side}
use Rattle.pixels.specs.Inner.{lent, table, frame_bits}
use Rattle.pixels.proofs.Blocks.{Upto}
use Rattle.pixels.proofs.frame_pixels.Given as goal

abbrev pub invariant-loop-block : goal.invariant-loop-block
invariant-loop-block l =
    (l.block ≤ l.work.blocks)
    × Upto l.mask (frame_bits l.work (lent l.lists.pixels.now l.lists.offsets.now l.lists.k_ta.now l.lists.k_v.now l.work.k_v_blocks l.lists.access.now l.work.access_blocks) (table l.tables.alpha.now l.tables.corners.now l.tables.k_s_to.now l.tables.coefficients.now) l.initial.destination) l.initial.destination (l.block * side) l.destination l.lost

abbrev pub decreases-loop-block : goal.decreases-loop-block
decreases-loop-block l = l.work.blocks - l.block
