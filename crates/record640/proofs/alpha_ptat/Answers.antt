-- `record640::alpha_ptat` meets its contract: a nibble divided by 4, plus 8, is exact in f32. Assumes nothing.
use mathlib.Core.Path.{refl}
use Rattle.record640.specs.Record.{alpha_ptat_of}
use Rattle.record640.proofs.alpha_ptat.Goals as goal

pub returns : goal.returns
unfolding alpha_ptat_of
returns c = refl
