-- `record640::k_ta_cp` meets its contract: a field divided by a power of two whose exponent is on the card. Assumes nothing.
use mathlib.Core.Path.{ap₂, ◌∙◌}
use Prim.Native.Nat.{ℕ, ◌+◌, ◌/◌, ◌%◌}
use Rattle.floats.specs.Floats.{over}
use Rattle.util.specs.Fields.{signed}
use Rattle.record640.specs.Record.{k_ta_cp}
use Rattle.record640.proofs.k_ta_cp.Goals as goal

pub returns : goal.returns
unfolding k_ta_cp
returns c = c.signed_over.ensures ∙ ap₂ (λ (n s : ℕ). over (signed 8 n) (8 + s / 16 % 16)) c.word_at-2.ensures c.word_at.ensures
