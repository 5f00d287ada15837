-- For inner functions only. A word of an image as read, and what the cursor reads from decoded data: the field, and the cursor after it.
-- Assumes nothing.
use Rattle.std.specs.Prelude.{ℕ, ◌+◌, ◌/◌, ◌%◌, ◌<◌, ◌≤◌, ◌≡◌, Bool, true, List, pos, ◌*ℤ◌, get_or, Option, None, Some, ℤ, Float}
use Rattle.lists.specs.Pick.{pick}
use Rattle.lists.specs.Written.{filled}
use Rattle.floats.specs.Floats.{real, over}
use Rattle.util.specs.Words.{word_at}
use Rattle.util.specs.Fields.{signed, combined, pair_of}
use Rattle.util.specs.declared.Pair.{Pair}
use Rattle.hamming.specs.Word.{codeword}
use Rattle.map.specs.Map.{card_words}
use Rattle.card.specs.Card.{data_at, damaged_at, stray_at}
use Rattle.card.specs.declared.Read.{Read}
use Rattle.card.specs.declared.Mending.{Mending}
use Rattle.card.specs.declared.Field.{Field}

-- a word of an image as read: its data, and whether it is checked and not a codeword; nothing of a damaged word
abbrev pub read_of : List ℕ → ℕ → Option Read
read_of image word = pick (damaged_at image word) None (Some (record { value = data_at image word; stray = stray_at image word }))

-- the count with one more word, which is added if it is not a codeword
abbrev pub counted : Mending → ℕ → Bool → Mending
counted m word stray = pick stray (record { count = m.count + 1; last = word }) m

-- the length of the longest block of words, as in the code
abbrev pub long : ℕ
long = 160

-- the high byte of word first + i
abbrev pub high_at : List ℕ → ℕ → ℕ → ℕ
high_at image first i = word_at image (first + i) / 256

-- the low byte of word first + i
abbrev pub low_at : List ℕ → ℕ → ℕ → ℕ
low_at image first i = word_at image (first + i) % 256

-- the n words from `first` on are codewords
pub record Codewords (image : List ℕ) (first n : ℕ) : Type 0 where
  pub at : (i : ℕ) → i < n → codeword (word_at image (first + i)) ≡ true

-- and they are words of the card; if n is not 0 they start at word 24 or later, so they are checked
pub record Clean (image : List ℕ) (first n : ℕ) : Type 0 where
  pub from : 0 < n → 24 ≤ first
  pub within : first + n ≤ card_words
  pub codewords : Codewords image first n

-- if the list d is filled with f up to w, then d' is filled up to w + n
pub record FilledOn (f : ℕ → ℕ) (w n : ℕ) (d d' : List ℕ) : Type 0 where
  pub on : (d₀ : List ℕ) → d ≡ filled f w d₀ → d' ≡ filled f (w + n) d₀

-- entry k of the decoded data; 0 past the end
abbrev pub at : List ℕ → ℕ → ℕ
at words k = get_or words k 0

-- an unsigned field, at word k
abbrev pub plain_at : List ℕ → ℕ → Field ℕ
plain_at words k = record { value = at words k; next = record { word = k + 1 } }

-- a signed field of 11 bits
abbrev pub signed_at : List ℕ → ℕ → Field ℤ
signed_at words k = record { value = signed 11 (at words k); next = record { word = k + 1 } }

-- two words combined
abbrev pub combined_at : List ℕ → ℕ → Field ℕ
combined_at words k = record { value = combined (at words k) (at words (k + 1)); next = record { word = k + 2 } }

-- a word split in two, the lower part of `width` bits
abbrev pub split_at : List ℕ → ℕ → ℕ → Field Pair
split_at words width k = record { value = pair_of width (at words k); next = record { word = k + 1 } }

-- a signed field of 11 bits, times 32
abbrev pub times32_at : List ℕ → ℕ → Field ℤ
times32_at words k = record { value = signed 11 (at words k) *ℤ pos 32; next = record { word = k + 1 } }

-- an unsigned field divided by 2 ^ power
abbrev pub fraction_at : List ℕ → ℕ → ℕ → Field Float
fraction_at words power k = record { value = over (pos (at words k)) power; next = record { word = k + 1 } }

-- two words combined, as a float
abbrev pub real_at : List ℕ → ℕ → Field Float
real_at words k = record { value = real (pos (combined (at words k) (at words (k + 1)))); next = record { word = k + 2 } }

-- a signed field of 11 bits, divided by 2 ^ power
abbrev pub scaled_at : List ℕ → ℕ → ℕ → Field Float
scaled_at words power k = record { value = over (signed 11 (at words k)) power; next = record { word = k + 1 } }
