-- `record640::alpha_cp` meets its contract: the first is as read, the second is the first times (1 + ratio). Assumes nothing.
use mathlib.Core.Path.{◌≡◌, ap, ap₂, ◌∙◌}
use mathlib.Core.List.{List, [], ◌∷◌}
use Prim.Native.Nat.{ℕ, ◌+◌, ◌/◌, ◌%◌}
use lib.Ieee.{Float}
use lib.IntN.{pos}
use Rattle.floats.specs.Constants.{one}
use Rattle.floats.specs.Floats.{real, power_of_two, over, ◌⊕◌, ◌⊗◌, ◌⊘◌}
use Rattle.util.specs.Fields.{signed}
use Rattle.record640.specs.Record.{alpha_cp0, alpha_cps}
use Rattle.record640.proofs.alpha_cp.Goals as goal

two : {a b x y : Float} → a ≡ x → b ≡ y → ◌≡◌ {A = List Float} (a ∷ b ∷ []) (x ∷ y ∷ [])
two p q = rw (p, q)

first-is : (w : ℕ → ℕ) (n m : ℕ) (p : Float) → n ≡ w 57 → m ≡ w 32 → p ≡ power_of_two (27 + m / 4096) → real (pos (n % 1024)) ⊘ p ≡ alpha_cp0 w
unfolding alpha_cp0
first-is w n m p d e f = ap₂ (λ (n : ℕ) (p : Float). real (pos (n % 1024)) ⊘ p) d (f ∙ ap (λ (n : ℕ). power_of_two (27 + n / 4096)) e)

pub returns : goal.returns
unfolding alpha_cps
returns c = two (first-is _ _ _ _ c.word_at-word.ensures c.word_at.ensures c.exp2.ensures) (ap₂ (λ (x y : Float). x ⊗ y) (first-is _ _ _ _ c.word_at-word.ensures c.word_at.ensures c.exp2.ensures) (ap (λ (x : Float). one ⊕ x) (c.signed_over.ensures ∙ ap (λ (n : ℕ). over (signed 6 (n / 1024)) 7) c.word_at-word.ensures)))
