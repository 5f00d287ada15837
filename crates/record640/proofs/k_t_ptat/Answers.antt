-- `record640::k_t_ptat` meets its contract: a field divided by a power of two. Assumes nothing.
use mathlib.Core.Path.{ap, ◌∙◌}
use Prim.Native.Nat.{ℕ}
use Rattle.floats.specs.Floats.{over}
use Rattle.util.specs.Fields.{signed}
use Rattle.record640.specs.Record.{k_t_ptat}
use Rattle.record640.proofs.k_t_ptat.Goals as goal

pub returns : goal.returns
unfolding k_t_ptat
returns c = c.signed_over.ensures ∙ ap (λ (n : ℕ). over (signed 10 n) 3) c.word_at.ensures
