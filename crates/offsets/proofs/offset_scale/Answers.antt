-- `offsets::offset_scale` meets its contract: it returns the scale of the basis. Assumes nothing.
use Rattle.offsets.proofs.Range.{scale-is}
use Rattle.offsets.proofs.offset_scale.Goals as goal

pub returns : goal.returns
returns c = scale-is _ _ c.read_basis.ensures
