-- Signed fields, combined words, and words split in two. Assumes nothing.
use Rattle.std.specs.Prelude.{ℕ, suc, ◌-◌, ◌*◌, ◌/◌, ◌%◌, ◌^◌, ◌<◌, ◌≡◌, Bool, ltb, ℤ, pos, negsuc, neg_ℤ}
use Rattle.std.specs.Int.Bits.{bit_or}
use Rattle.std.specs.Int.Signed.{mag}
use Rattle.lists.specs.Pick.{pick}
use Rattle.util.specs.declared.Pair.{Pair}

-- the low `width` bits of n as a two's complement number: their value if it is below 2 ^ (width - 1), else that value less 2 ^ width
unfoldable pub signed : ℕ → ℕ → ℤ
signed width n =
    let low = n % 2 ^ width in
    pick (ltb low (2 ^ (width - 1))) (pos low) (negsuc (2 ^ width - suc low))

-- -n
abbrev pub minus : ℕ → ℤ
minus n = neg_ℤ (pos n)

-- the `width` bits of a number in two's complement
abbrev pub bits_of : ℕ → ℤ → ℕ
bits_of width (pos n) = n
bits_of width (negsuc n) = 2 ^ width - suc n

-- What is proved of signed fields, for every width: `signed` and `bits_of` are inverse to each other. `mag` is n for both n and -1 - n, so
-- `mag z < 2 ^ (width - 1)` means that z is from -2 ^ (width - 1) to 2 ^ (width - 1) - 1.
pub record Stands (width : ℕ) : Type 0 where
  pub range : (n : ℕ) → mag (signed width n) < 2 ^ (width - 1)
  pub bits : (n : ℕ) → bits_of width (signed width n) ≡ n % 2 ^ width
  pub only : (z : ℤ) → mag z < 2 ^ (width - 1) → signed width (bits_of width z) ≡ z

-- two words combined: (upper times 32) OR lower
abbrev pub combined : ℕ → ℕ → ℕ
combined upper lower = bit_or (upper * 32) lower

-- n split into its low `width` bits and the bits above them
abbrev pub pair_of : ℕ → ℕ → Pair
pair_of width n = record { upper = n / 2 ^ width; lower = n % 2 ^ width }

-- whether z fits an i16: -32768 to 32767
unfoldable pub in_i16 : ℤ → Bool
in_i16 z = ltb (mag z) 32768
