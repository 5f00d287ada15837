-- `sums640::alpha_rest_at` meets its contract: it scales the rest as read. Assumes nothing.
use mathlib.Core.Path.{ap₂, ◌∙◌}
use Prim.Native.Nat.{ℕ, ◌/◌}
use mir.Syntax.{w32}
use mir.Facts.{to_z-of_z}
use Rattle.sums640.specs.Sums.{scaled, rest_scale, alpha_rest_at}
use Rattle.sums640.proofs.alpha_rest_at.Goals as goal

pub returns : goal.returns
unfolding alpha_rest_at
returns c = to_z-of_z {w = w32} (record { sfits = c.scaled.type_inv }) ∙ c.scaled.ensures ∙ ap₂ (λ (n s : ℕ). scaled 6 (n / 16) (rest_scale s)) c.word_at-word.ensures c.word_at-scales.ensures
