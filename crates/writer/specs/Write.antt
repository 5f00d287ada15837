-- Writing a card, document 02's request 2: what stops it, lowest number first, and the image that it writes. Assumes nothing.
use Rattle.std.specs.Prelude.{ℕ, ◌/◌, ◌%◌, ◌≡◌, not, List, [], ◌∷◌, eqb, leb, ltb, length, get_or, ⊤, Result}
use Rattle.lists.specs.Pick.{pick}
use Rattle.lists.specs.First.{first_from}
use Rattle.lists.specs.Written.{filled}
use Rattle.refusal.specs.declared.Refusal.TheVariants.{ListLength, ShortTable, ListedDataTooLarge}
use Rattle.refusal.specs.declared.Refusal.{Refusal}
use Rattle.refusal.specs.Refusal.{unless}
use Rattle.refusal.specs.Order.{Test, ◌refuses◌, first_of}
use Rattle.hamming.specs.Word.{data_values, encoded}
use Rattle.map.specs.Map.{image_bytes, checked_words, checked}
use Rattle.listing.specs.Index.{Lists, unchecked, unchecked_words, list_index}

-- ---- the image

-- the word to write: for a checked word the codeword of its data, for an unchecked word its entry as it is
unfoldable pub word_from : Lists → ℕ → ℕ
word_from from word =
    pick (checked word) (encoded (get_or from.checked (list_index checked word) 0)) (get_or from.unchecked (list_index unchecked word) 0)

-- byte k of a sequence of words, each high byte first
abbrev pub byte_of : (ℕ → ℕ) → ℕ → ℕ
byte_of words k = pick (eqb (k % 2) 0) (words (k / 2) / 256) (words (k / 2) % 256)

-- the image after writing: the first 1,664 bytes are those of the words, the others stay
unfoldable pub image_from : Lists → List ℕ → List ℕ
image_from from image = filled (byte_of (word_from from)) image_bytes image

-- ---- the tests, in order

-- the index of the first data value above 2047, or 814 if there is none
unfoldable pub first_large : List ℕ → ℕ
first_large list = first_from (λ index. leb data_values (get_or list index 0)) 0 checked_words

-- the tests 1 (data list), 1 (other list), 2 and 9, of the lists and the length of the caller's image
unfoldable pub write_tests : Lists → ℕ → List Test
write_tests from image =
    not (eqb (length from.checked) checked_words) refuses ListLength (length from.checked)
    ∷ not (eqb (length from.unchecked) unchecked_words) refuses ListLength (length from.unchecked)
    ∷ ltb image image_bytes refuses ShortTable
    ∷ ltb (first_large from.checked) checked_words refuses ListedDataTooLarge (first_large from.checked) (get_or from.checked (first_large from.checked) 0)
    ∷ []

-- ---- the contract

-- the contract of `write`: its lists, the image before and after, and its verdict r
pub record Writes (from : Lists) (before after : List ℕ) (r : Result ⊤ Refusal) : Type 0 where
  pub verdict : r ≡ first_of (write_tests from (length before))
  pub image : after ≡ unless r (image_from from before) before
