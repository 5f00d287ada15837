-- Document 01, "The chip word". Data are bits 0 to 10, check bits P0 to P4 are bits 11 to 15. Assumes nothing.
use Rattle.std.specs.Prelude.{ℕ, ◌+◌, ◌*◌, ◌%◌, ◌^◌, Bool, true, false, eqb, ltb}
use Rattle.std.specs.Int.Bits.{bit_and, bit_xor}
use Rattle.std.specs.Int.Count.{ones_in}
use Rattle.lists.specs.Pick.{pick}
use Rattle.lists.specs.First.{first_from}

-- the parity of n under the mask: 1 if the number of ones among bits 0 to 15 is odd, 0 if it is even
unfoldable pub parity : ℕ → ℕ → ℕ
parity mask n = ones_in 16 (bit_and n mask) % 2

-- the data with check bits P0 to P3: each makes the parity even over the data bits of its mask and itself
unfoldable pub with_four : ℕ → ℕ
with_four d = d + parity 0x055B d * 2 ^ 11 + parity 0x066D d * 2 ^ 12 + parity 0x078E d * 2 ^ 13 + parity 0x07F0 d * 2 ^ 14

-- the codeword of the data: P4 added, which makes the parity even over bits 0 to 14 and itself
unfoldable pub encoded : ℕ → ℕ
encoded d = let w = with_four d in w + parity 0x7FFF w * 2 ^ 15

-- the number of data values: data have 11 bits
abbrev pub data_values : ℕ
data_values = 2048

-- the data bits of a word
abbrev pub data_of : ℕ → ℕ
data_of w = w % data_values

-- whether w is a codeword: whether its data bits encode to w
unfoldable pub codeword : ℕ → Bool
codeword w = eqb w (encoded (data_of w))

-- 0 for a codeword, else 1
abbrev pub not_codeword : ℕ → ℕ
not_codeword w = pick (codeword w) 0 1

-- the word with bit k flipped
abbrev pub flip : ℕ → ℕ → ℕ
flip k w = bit_xor w (2 ^ k)

-- the number of the bit whose flip makes w a codeword; 16 if there is none
unfoldable pub place : ℕ → ℕ
place w = first_from (λ (k : ℕ). codeword (flip k w)) 0 16

-- the result of decoding a word: `says` with its data, or `damaged`
pub data Said : Type 0 where
  says : ℕ → Said
  damaged : Said

-- the result of decoding a word that is not a codeword: the data after flipping bit k, or `damaged` if k is 16
abbrev pub mended : ℕ → ℕ → Said
mended w k = pick (ltb k 16) (says (data_of (flip k w))) damaged

-- decoding: a codeword with at most one flipped bit decodes to its data, any other word is damaged
unfoldable pub decoded : ℕ → Said
decoded w = pick (codeword w) (says (data_of w)) (mended w (place w))

-- whether decoding gave data
abbrev pub is_said : Said → Bool
is_said (says d) = true
is_said damaged = false

-- the decoded data; 0 for a damaged word
abbrev pub said_data : Said → ℕ
said_data (says d) = d
said_data damaged = 0

-- whether a word is accepted: it is not damaged
unfoldable pub accepted : ℕ → Bool
accepted w = is_said (decoded w)

-- 1 if the word has an odd number of ones, else 0
abbrev pub odd_ones : ℕ → ℕ
odd_ones w = parity 0xFFFF w
