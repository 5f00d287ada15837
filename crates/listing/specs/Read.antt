-- Reading a card's words, the reverse of document 02's request 2: what stops it, lowest number first, and what it writes to the lists. Assumes nothing.
use Rattle.std.specs.Prelude.{ℕ, ◌≡◌, ◌||◌, List, [], ◌∷◌, ltb, length, ⊤, Result}
use Rattle.lists.specs.Written.{filled}
use Rattle.refusal.specs.declared.Refusal.TheVariants.{ShortImage, ShortTable, DamagedWord}
use Rattle.refusal.specs.declared.Refusal.{Refusal}
use Rattle.refusal.specs.Refusal.{unless}
use Rattle.refusal.specs.Order.{Test, ◌refuses◌, first_of}
use Rattle.util.specs.Words.{word_at}
use Rattle.map.specs.Map.{card_words, image_bytes, checked_words, checked}
use Rattle.card.specs.Card.{data_at, first_damaged}
use Rattle.listing.specs.Index.{Lists, lists, unchecked, unchecked_words, listed_word}

-- ---- the lists

-- the lists after reading: each entry is the data of the checked word, or the unchecked word, at that index; later entries stay
unfoldable pub lists_of : List ℕ → Lists → Lists
lists_of image before =
    lists (filled (λ index. data_at image (listed_word checked index)) checked_words before.checked)
    (filled (λ index. word_at image (listed_word unchecked index)) unchecked_words before.unchecked)

-- ---- the tests, in order

-- the tests 1, 2 and 3, of an image and the lengths of the caller's two lists
unfoldable pub read_tests : List ℕ → ℕ → ℕ → List Test
read_tests image first second =
    ltb (length image) image_bytes refuses ShortImage (length image)
    ∷ (ltb first checked_words || ltb second unchecked_words) refuses ShortTable
    ∷ ltb (first_damaged image) card_words refuses DamagedWord (first_damaged image) (word_at image (first_damaged image))
    ∷ []

-- ---- the contract

-- the contract of `read_words`: its image, the lists before and after, and its verdict r
pub record Reads (image : List ℕ) (before after : Lists) (r : Result ⊤ Refusal) : Type 0 where
  pub verdict : r ≡ first_of (read_tests image (length before.checked) (length before.unchecked))
  pub lent : after ≡ unless r (lists_of image before) before
