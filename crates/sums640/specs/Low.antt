-- Where nothing is refused, each whole number is what its low 16 bits stand for, which is what 16 bits that wrap end with. Assumes nothing.
use Rattle.std.specs.Prelude.{ℕ, ◌+◌, ◌-◌, ◌*◌, ◌%◌, ◌^◌, ◌<◌, ◌≡◌, true, ℤ, pos, negsuc, ◌+ℤ◌, ◌*ℤ◌}
use Rattle.util.specs.Fields.{signed, in_i16}
use Rattle.sums640.specs.Sums.{pixel_count, offset_at, alpha_base_at, alpha_rest_at, k_ta_sum_at, first_outside}

-- a whole number's low 16 bits in two's complement
unfoldable pub low : ℤ → ℕ
low (pos n) = n % 65536
low (negsuc n) = 65535 - n % 65536

abbrev pub Low : ℤ → Type 0
Low z = signed 16 (low z) ≡ z

-- exactly the numbers inside i16 are what their low 16 bits stand for; and sums and shifts may drop what is above those bits on the way
pub record Wraps : Type 0 where
  pub inside : (z : ℤ) → in_i16 z ≡ true → Low z
  pub only : (z : ℤ) → Low z → in_i16 z ≡ true
  pub sum : (a b : ℤ) → low (a +ℤ b) ≡ (low a + low b) % 65536
  pub shift : (a : ℤ) (scale : ℕ) → low (a *ℤ pos (2 ^ scale)) ≡ low a * 2 ^ scale % 65536

-- of a pixel's four numbers
pub record Lows (w : ℕ → ℕ) (pixel : ℕ) : Type 0 where
  pub offset : Low (offset_at w pixel)
  pub alpha_base : Low (alpha_base_at w pixel)
  pub alpha_rest : Low (alpha_rest_at w pixel)
  pub k_ta_sum : Low (k_ta_sum_at w pixel)

-- on a card that 5 does not refuse
abbrev pub Kept : Type 0
Kept = (w : ℕ → ℕ) → first_outside w ≡ pixel_count → (pixel : ℕ) → pixel < pixel_count → Lows w pixel
