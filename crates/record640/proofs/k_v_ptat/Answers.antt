-- `record640::k_v_ptat` meets its contract: a field divided by a power of two. Assumes nothing.
use mathlib.Core.Path.{ap, ◌∙◌}
use Prim.Native.Nat.{ℕ, ◌/◌}
use Rattle.floats.specs.Floats.{over}
use Rattle.util.specs.Fields.{signed}
use Rattle.record640.specs.Record.{k_v_ptat}
use Rattle.record640.proofs.k_v_ptat.Goals as goal

pub returns : goal.returns
unfolding k_v_ptat
returns c = c.signed_over.ensures ∙ ap (λ (n : ℕ). over (signed 6 (n / 1024)) 12) c.word_at.ensures
