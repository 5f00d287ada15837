-- For inner functions only: the syndrome, from which the code decides. The proofs show that it determines `decoded`. Assumes nothing.
use Rattle.std.specs.Prelude.{ℕ, ◌+◌, ◌*◌, ◌/◌, ◌%◌, ◌^◌}
use Rattle.std.specs.Int.Count.{ones}
use Rattle.hamming.specs.Word.{parity}

-- the syndrome: five binary digits, P4's first, each the parity over the bits that a check bit covers and itself
unfoldable pub syndrome_of : ℕ → ℕ
syndrome_of w = (((parity 0xFFFF w * 2 + parity 0x47F0 w) * 2 + parity 0x278E w) * 2 + parity 0x166D w) * 2 + parity 0x0D5B w

-- a syndrome with each of its five binary digits in a byte of its own
unfoldable pub spread : ℕ → ℕ
spread s = s / 16 * 2 ^ 32 + s / 8 % 2 * 2 ^ 24 + s / 4 % 2 * 2 ^ 16 + s / 2 % 2 * 2 ^ 8 + s % 2

-- 1 if the byte has an odd number of ones, else 0
abbrev pub odd_byte : ℕ → ℕ
odd_byte b = ones b % 2
