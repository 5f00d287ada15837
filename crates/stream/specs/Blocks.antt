-- Numbers in a block of bytes, upper byte first, and parts of tables. Assumes nothing.
use Rattle.std.specs.Prelude.{ℕ, ◌+◌, ◌*◌, ◌%◌, ◌^◌, List, unwrap_or, slice_get}
use Rattle.util.specs.Words.{big_endian}

-- the position behind so many bytes, as a usize counts
abbrev pub after : ℕ → ℕ → ℕ
after at size = (at + size) % 2 ^ 64

-- the byte at a position; 0 past the end
abbrev pub byte_at : List ℕ → ℕ → ℕ
byte_at block at = unwrap_or (slice_get block at) 0

-- the number of two, four and eight bytes from a position on, the upper half first
abbrev pub half_at : List ℕ → ℕ → ℕ
half_at block at = big_endian (byte_at block at) (byte_at block (after at 1))

abbrev pub word_at : List ℕ → ℕ → ℕ
word_at block at = half_at block at * 2 ^ 16 + half_at block (after at 2)

abbrev pub long_at : List ℕ → ℕ → ℕ
long_at block at = word_at block at * 2 ^ 32 + word_at block (after at 4)
