-- On every card, the whole numbers of a pixel fit an i32, whose `mag` is below 2,147,483,648. `mag` is n for both n and -1 - n. Assumes nothing.
use Rattle.std.specs.Prelude.{ℕ, ◌<◌}
use Rattle.std.specs.Int.Signed.{mag}
use Rattle.sums640.specs.Sums.{offset_at, alpha_base_at, alpha_rest_at, k_ta_sum_at}

-- the four whole numbers of a pixel are below 1,700,000 in magnitude
pub record Held (w : ℕ → ℕ) (pixel : ℕ) : Type 0 where
  pub offset : mag (offset_at w pixel) < 1700000
  pub alpha_base : mag (alpha_base_at w pixel) < 1700000
  pub alpha_rest : mag (alpha_rest_at w pixel) < 1700000
  pub k_ta_sum : mag (k_ta_sum_at w pixel) < 1700000
