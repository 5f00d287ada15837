-- `record640::corners_of` meets its contract: it returns the corners of word 63. Assumes nothing.
use mathlib.Core.Path.{ap, ◌∙◌}
use Rattle.record640.specs.Record.{corners_of, corners_at}
use Rattle.record640.proofs.corners_of.Goals as goal

pub returns : goal.returns
unfolding corners_at
returns c = c.corners.ensures ∙ ap corners_of c.word_at.ensures
