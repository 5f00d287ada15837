-- `offsets::offset_average` meets its contract, which follows from its callees' contracts. Assumes nothing.
use mathlib.Core.Path.{ap, ◌∙◌}
use mir.Syntax.{w16}
use mir.ValLaws.{to_z-of_z}
use Rattle.util.specs.Fields.{signed}
use Rattle.offsets.specs.Offsets.{offset_average}
use Rattle.offsets.proofs.offset_average.Goals as goal

pub returns : goal.returns
unfolding offset_average
returns c =
    to_z-of_z w16 c.i16_from_bits.result (record { sfits = c.i16_from_bits.type_inv }) ∙ c.i16_from_bits.ensures
    ∙ ap (signed 16) c.combine.ensures
