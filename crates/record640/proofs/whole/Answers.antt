-- `record640::whole` meets its contract: a signed number of 16 bits is exact in f32. Assumes nothing.
use mathlib.Core.Path.{ap, ◌∙◌}
use lib.Dec.{lit≤}
use lib.IntN.{ℤ}
use mir.Syntax.{w16}
use mir.Val.{to_z, of_z}
use Rattle.util.specs.Fields.{signed}
use Rattle.util.proofs.Width.{signed_back}
use Rattle.floats.specs.Floats.{real}
use Rattle.record640.specs.Record.{whole_of}
use Rattle.record640.proofs.whole.Goals as goal

pub returns : goal.returns
unfolding whole_of
returns c = let s = c in ap real (ap (λ (z : ℤ). to_z w16 (of_z w16 z)) (c.i16_from_bits.ensures ∙ ap (signed 16) c.wide.ensures) ∙ signed_back 16 s.args.word (lit≤ tt) (lit≤ tt))
