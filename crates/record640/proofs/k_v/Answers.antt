-- `record640::k_v` meets its contract: four signed nibbles divided by a power of two. Assumes nothing.
use mathlib.Core.Path.{◌≡◌, ap₂, ◌∙◌}
use mathlib.Core.List.{List, [], ◌∷◌}
use Prim.Native.Nat.{ℕ, ◌/◌, ◌%◌}
use lib.Ieee.{Float}
use Rattle.floats.specs.Floats.{over}
use Rattle.util.specs.Fields.{signed}
use Rattle.record640.specs.Record.{k_vs}
use Rattle.record640.proofs.k_v.Goals as goal

four : {a b c d x y z u : Float} → a ≡ x → b ≡ y → c ≡ z → d ≡ u → ◌≡◌ {A = List Float} (a ∷ b ∷ c ∷ d ∷ []) (x ∷ y ∷ z ∷ u ∷ [])
four p q r s = rw (p, q, r, s)

pub returns : goal.returns
unfolding k_vs
returns c = let w = c.word_at-word.ensures in let s = c.word_at.ensures in four (c.signed_over.ensures ∙ ap₂ (λ (n t : ℕ). over (signed 4 (n / 4096)) (t / 256 % 16)) w s) (c.signed_over-2.ensures ∙ ap₂ (λ (n t : ℕ). over (signed 4 (n / 256)) (t / 256 % 16)) w s) (c.signed_over-3.ensures ∙ ap₂ (λ (n t : ℕ). over (signed 4 (n / 16)) (t / 256 % 16)) w s) (c.signed_over-4.ensures ∙ ap₂ (λ (n t : ℕ). over (signed 4 n) (t / 256 % 16)) w s)
