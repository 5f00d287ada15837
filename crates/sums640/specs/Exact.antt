-- Nothing is rounded: each f32 step of a pixel's alpha and K_Ta is exact, on every card. Assumes nothing.
use Rattle.std.specs.Prelude.{ℕ, ◌+◌, ◌/◌, ◌%◌, ◌+ℤ◌}
use Rattle.floats.specs.Floats.{real, ◌⊕◌}
use Rattle.floats.specs.Exact.{Exactly}
use Rattle.map640.specs.declared.Field.TheVariants.{Scales}
use Rattle.map640.specs.Map.{word_of}
use Rattle.sums640.specs.Sums.{alpha_part, scales_of, alpha_base_at, alpha_rest_at, k_ta_sum_at, alpha_at, k_ta_at}

-- the f32 steps of a pixel, in order: B, P, B + P, alpha, S, K_Ta
pub record Exact (w : ℕ → ℕ) (pixel : ℕ) : Type 0 where
  pub alpha_base : Exactly (real (alpha_base_at w pixel)) (alpha_base_at w pixel) 0
  pub alpha_rest : Exactly (real (alpha_rest_at w pixel)) (alpha_rest_at w pixel) 0
  pub alpha_sum : Exactly (real (alpha_base_at w pixel) ⊕ real (alpha_rest_at w pixel)) (alpha_base_at w pixel +ℤ alpha_rest_at w pixel) 0
  pub alpha : Exactly (alpha_at w pixel) (alpha_base_at w pixel +ℤ alpha_rest_at w pixel) (30 + scales_of w alpha_part / 4096 % 16)
  pub k_ta_sum : Exactly (real (k_ta_sum_at w pixel)) (k_ta_sum_at w pixel) 0
  pub k_ta : Exactly (k_ta_at w pixel) (k_ta_sum_at w pixel) (8 + w (word_of Scales 0) / 16 % 16)
