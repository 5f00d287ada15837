-- Definitions for the round-trip theorems of proofs/Round: a card that holds two lists, and a clean card. Assumes nothing.
use Rattle.std.specs.Prelude.{ℕ, ◌<◌, ◌≡◌, true, false, List, get_or, take, Result, Ok, Err}
use Rattle.util.specs.Words.{word_at}
use Rattle.hamming.specs.Word.{says, codeword}
use Rattle.refusal.specs.declared.Refusal.{Refusal}
use Rattle.map.specs.Map.{card_words, checked_words, checked}
use Rattle.card.specs.Card.{read_at}
use Rattle.calibration.specs.declared.Calibration.{Calibration}
use Rattle.eeprom.specs.declared.Loaded.{Loaded}
use Rattle.listing.specs.Index.{Lists, lists, unchecked, unchecked_words, list_index}

-- an image holds two lists: each checked word decodes to its entry of the first, and each unchecked word equals its entry of the second
pub record Holds (from : Lists) (image : List ℕ) : Type 0 where
  pub said : (word : ℕ) → word < card_words → checked word ≡ true → read_at image word ≡ says (get_or from.checked (list_index checked word) 0)
  pub stands : (word : ℕ) → word < card_words → checked word ≡ false → word_at image word ≡ get_or from.unchecked (list_index unchecked word) 0

-- an image is clean: each checked word is a codeword
abbrev pub Clean : List ℕ → Type 0
Clean image = (word : ℕ) → word < card_words → checked word ≡ true → codeword (word_at image word) ≡ true

-- all entries of an image are bytes
abbrev pub Bytes : List ℕ → Type 0
Bytes image = (k : ℕ) → get_or image k 0 < 256

-- the first 814 and 18 entries of lists that may be longer
abbrev pub firsts : Lists → Lists
firsts l = lists (take checked_words l.checked) (take unchecked_words l.unchecked)

-- what a load says of the card but for its mended words: the refusal, or the record
abbrev pub record_in : Result Loaded Refusal → Result Calibration Refusal
record_in (Ok loaded) = Ok loaded.calibration
record_in (Err refusal) = Err refusal
