-- `record640::k_s_ta` meets its contract: a field divided by a power of two. Assumes nothing.
use mathlib.Core.Path.{ap, ◌∙◌}
use Prim.Native.Nat.{ℕ, ◌/◌}
use Rattle.floats.specs.Floats.{over}
use Rattle.util.specs.Fields.{signed}
use Rattle.record640.specs.Record.{k_s_ta}
use Rattle.record640.proofs.k_s_ta.Goals as goal

pub returns : goal.returns
unfolding k_s_ta
returns c = c.signed_over.ensures ∙ ap (λ (n : ℕ). over (signed 8 (n / 256)) 13) c.word_at.ensures
