-- What the words of an image decode to. Assumes nothing.
use Rattle.std.specs.Prelude.{ℕ, Bool, not, ◌&&◌, List}
use Rattle.lists.specs.Pick.{pick}
use Rattle.lists.specs.First.{first_from}
use Rattle.lists.specs.Count.{count_below}
use Rattle.lists.specs.Last.{last_below}
use Rattle.util.specs.Words.{word_at}
use Rattle.hamming.specs.Word.{Said, says, is_said, said_data, codeword, decoded}
use Rattle.map.specs.Map.{card_words, checked}
use Rattle.card.specs.declared.Mending.{Mending}

-- the result of decoding a word, by its number; an unchecked word is not decoded and counts as data 0
unfoldable pub read_at : List ℕ → ℕ → Said
read_at image word = pick (checked word) (decoded (word_at image word)) (says 0)

-- the data of a word, by its number; 0 if it is unchecked or damaged
unfoldable pub data_at : List ℕ → ℕ → ℕ
data_at image word = said_data (read_at image word)

-- whether a word is damaged; an unchecked word never is
unfoldable pub damaged_at : List ℕ → ℕ → Bool
damaged_at image word = not (is_said (read_at image word))

-- the first damaged word in reading order, or 832
unfoldable pub first_damaged : List ℕ → ℕ
first_damaged image = first_from (damaged_at image) 0 card_words

-- whether a word is checked and not a codeword; in a card that loads such a word is mended
unfoldable pub stray_at : List ℕ → ℕ → Bool
stray_at image word = checked word && not (codeword (word_at image word))

-- the number of such words below word n, and the last of them, or 832 if there is none
unfoldable pub mending_below : List ℕ → ℕ → Mending
mending_below image n = record { count = count_below (stray_at image) n; last = last_below (stray_at image) card_words n }

-- the same for the whole card
abbrev pub mending_of : List ℕ → Mending
mending_of image = mending_below image card_words

-- the record of no such words, which C gets after a refused call
abbrev pub no_mending : Mending
no_mending = record { count = 0; last = card_words }
