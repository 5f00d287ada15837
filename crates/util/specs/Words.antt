-- Words are big-endian. Assumes nothing.
use Rattle.std.specs.Prelude.{ℕ, ◌+◌, ◌*◌, ◌/◌, ◌%◌, List, get_or}

-- the word of two bytes, the high one first
abbrev pub big_endian : ℕ → ℕ → ℕ
big_endian high low = high * 256 + low

-- a word with its two bytes exchanged
abbrev pub swapped : ℕ → ℕ
swapped word = big_endian (word % 256) (word / 256)

-- word number i of a list of bytes
unfoldable pub word_at : List ℕ → ℕ → ℕ
word_at bytes i = big_endian (get_or bytes (i * 2) 0) (get_or bytes (i * 2 + 1) 0)
