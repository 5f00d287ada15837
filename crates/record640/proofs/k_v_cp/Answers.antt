-- `record640::k_v_cp` meets its contract: a field divided by a power of two whose exponent is on the card. Assumes nothing.
use mathlib.Core.Path.{ap₂, ◌∙◌}
use Prim.Native.Nat.{ℕ, ◌/◌, ◌%◌}
use Rattle.floats.specs.Floats.{over}
use Rattle.util.specs.Fields.{signed}
use Rattle.record640.specs.Record.{k_v_cp}
use Rattle.record640.proofs.k_v_cp.Goals as goal

pub returns : goal.returns
unfolding k_v_cp
returns c = c.signed_over.ensures ∙ ap₂ (λ (n s : ℕ). over (signed 8 (n / 256)) (s / 256 % 16)) c.word_at-2.ensures c.word_at.ensures
