use Prim.Native.Nat.{◌-◌}
use Rattle.lists.proofs.Fill.{Filling}
use Rattle.rows640.specs.Mask.{pixel_count, mask_at}
use Rattle.rows640.proofs.write_mask.Given as goal

abbrev pub invariant-loop-pixel : goal.invariant-loop-pixel
invariant-loop-pixel l = Filling (mask_at l.number l.pattern) pixel_count l.initial.mask l.mask l.pixel

abbrev pub decreases-loop-pixel : goal.decreases-loop-pixel
decreases-loop-pixel l = pixel_count - l.pixel
