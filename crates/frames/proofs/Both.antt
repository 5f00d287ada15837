-- Infrared values first, then temperatures from them, equal one pass. Assumes nothing.
use Prim.Native.Nat.{ℕ, ◌≤◌}
use mathlib.Core.Path.{◌≡◌, ap₂, ◌∙◌}
use mathlib.Core.List.{List}
use lib.ListN.{get_or, length}
use lib.Ieee.{Float, nan}
use Rattle.formulas.specs.Pixel.{final_of, answer_of}
use Rattle.pixels.specs.Pixels.{held, infrared_bits, answer_bits, temperature_bits, into, lost_of}
use Rattle.pixels.proofs.Stages.{pass-lost, pass-into}
use Rattle.frames.specs.Frames.{PassCall, onward, common, infrared_at, reflected_term, sensitivity_at, final_at}
use Rattle.frames.specs.OneOrTwo.{second}
use Rattle.frames.proofs.Calls.{infrared-fits}

-- the bits of pixel k: by two calls, by one pass, and by one pass with infrared value x
abbrev staged-bits : PassCall → Float → List ℕ → ℕ → ℕ
staged-bits f t_a w = temperature_bits (final_at (second f t_a) (held w)) (held w)

abbrev pass-bits : PassCall → ℕ → ℕ
pass-bits f = temperature_bits (final_at (onward f) (infrared_at f.ir)) (infrared_at f.ir)

abbrev own_bits : PassCall → Float → ℕ → ℕ
own_bits f x k = let g = onward f in answer_bits (answer_of (final_of (get_or g.ranges.k_s_to g.settings.basic_range nan) (reflected_term g) (sensitivity_at g k) x) x)

module _ (f : PassCall) (d : List ℕ) {d₁ : List ℕ} {x : Float} (l : f.ir.size ≤ length d) (a : x ≡ (common f.ir).t_a)
    (e : d₁ ≡ into f.ir.size f.ir.mask (infrared_bits (infrared_at f.ir)) d) where
  pub both-lost : lost_of f.ir.size f.ir.mask (staged-bits f x d₁) ≡ lost_of f.ir.size f.ir.mask (pass-bits f)
  unfolding final_at
  both-lost =
      ap₂ (λ (t_a : Float) (w : List ℕ). lost_of f.ir.size f.ir.mask (staged-bits f t_a w)) a e
      ∙ pass-lost f.ir.size f.ir.mask (infrared_at f.ir) (infrared-fits f.ir) d l (own_bits f)

  pub both-into : into f.ir.size f.ir.mask (staged-bits f x d₁) d₁ ≡ into f.ir.size f.ir.mask (pass-bits f) d
  unfolding final_at
  both-into =
      ap₂ (λ (t_a : Float) (w : List ℕ). into f.ir.size f.ir.mask (staged-bits f t_a w) w) a e
      ∙ pass-into f.ir.size f.ir.mask (infrared_at f.ir) (infrared-fits f.ir) d l (own_bits f)
