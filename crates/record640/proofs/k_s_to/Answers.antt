-- `record640::k_s_to` meets its contract: four signed bytes divided by a power of two. Assumes nothing.
use mathlib.Core.Path.{◌≡◌, ap₂, ◌∙◌}
use mathlib.Core.List.{List, [], ◌∷◌}
use Prim.Native.Nat.{ℕ, ◌+◌, ◌/◌, ◌%◌}
use lib.Ieee.{Float}
use Rattle.floats.specs.Floats.{over}
use Rattle.util.specs.Fields.{signed}
use Rattle.record640.specs.Record.{k_s_tos}
use Rattle.record640.proofs.k_s_to.Goals as goal

four : {a b c d x y z u : Float} → a ≡ x → b ≡ y → c ≡ z → d ≡ u → ◌≡◌ {A = List Float} (a ∷ b ∷ c ∷ d ∷ []) (x ∷ y ∷ z ∷ u ∷ [])
four p q r s = rw (p, q, r, s)

pub returns : goal.returns
unfolding k_s_tos
returns c = let b = c.word_at-second.ensures in let a = c.word_at-first.ensures in let s = c.word_at.ensures in four (c.signed_over.ensures ∙ ap₂ (λ (n t : ℕ). over (signed 8 n) (8 + t % 16)) a s) (c.signed_over-2.ensures ∙ ap₂ (λ (n t : ℕ). over (signed 8 (n / 256)) (8 + t % 16)) a s) (c.signed_over-3.ensures ∙ ap₂ (λ (n t : ℕ). over (signed 8 n) (8 + t % 16)) b s) (c.signed_over-4.ensures ∙ ap₂ (λ (n t : ℕ). over (signed 8 (n / 256)) (8 + t % 16)) b s)
