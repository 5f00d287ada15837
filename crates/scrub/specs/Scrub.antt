-- Document 02, request 6: which words a scrub changes and to what, what it writes to the image and to two lists, what stops it, and what it returns.
-- Assumes nothing.
use Rattle.std.specs.Prelude.{ℕ, ◌/◌, ◌≡◌, Bool, not, ◌&&◌, ◌||◌, List, [], ◌∷◌, ltb, length, ⊤, Result, Ok, Err}
use Rattle.lists.specs.Written.{written, filled}
use Rattle.refusal.specs.declared.Refusal.TheVariants.{ShortImage, ShortTable}
use Rattle.refusal.specs.declared.Refusal.{Refusal}
use Rattle.refusal.specs.Refusal.{unless, giving}
use Rattle.refusal.specs.Order.{Test, ◌refuses◌, first_of}
use Rattle.hamming.specs.Word.{encoded}
use Rattle.map.specs.Map.{card_words, image_bytes, checked_words}
use Rattle.card.specs.Card.{data_at, damaged_at, stray_at}
use Rattle.listing.specs.Index.{list_index, listed_word}
use Rattle.writer.specs.Write.{byte_of}
use Rattle.scrub.specs.declared.Counts.{Counts}

-- ---- the image

-- whether a word is mended: it is checked, not a codeword and not damaged, so it is one flip from a codeword
unfoldable pub mended_at : List ℕ → ℕ → Bool
mended_at image word = stray_at image word && not (damaged_at image word)

-- the codeword of the data of a word
unfoldable pub code_at : List ℕ → ℕ → ℕ
code_at image word = encoded (data_at image word)

-- the image after a scrub: the two bytes of each mended word are those of its codeword, every other byte stays
unfoldable pub scrubbed : List ℕ → List ℕ
scrubbed image = written (λ k. mended_at image (k / 2)) (byte_of (code_at image)) image_bytes image

-- ---- the lists

-- the number of words of a card that pass the test
unfoldable pub how_many : (ℕ → Bool) → ℕ
how_many test = list_index test card_words

-- a list with the numbers of these words at its start, each once, ascending; later entries stay
unfoldable pub numbered : (ℕ → Bool) → List ℕ → List ℕ
numbered test list = filled (listed_word test) (how_many test) list

-- ---- the caller's slices, before and after a scrub

-- the contents of the caller's image and two lists
pub record Lent : Type 0 where
  pub image : List ℕ
  pub changed : List ℕ
  pub damaged : List ℕ

-- three lists as `Lent`
abbrev pub lent : List ℕ → List ℕ → List ℕ → Lent
lent i c d = record { image = i; changed = c; damaged = d }

-- the caller's slices after a scrub that is not refused
unfoldable pub left_of : Lent → Lent
left_of before =
    lent (scrubbed before.image) (numbered (mended_at before.image) before.changed) (numbered (damaged_at before.image) before.damaged)

-- the number of mended and of damaged words of an image
unfoldable pub counts_of : List ℕ → Counts
counts_of image = record { changed = how_many (mended_at image); damaged = how_many (damaged_at image) }

-- the counts that C is given after a refusal
abbrev pub no_counts : Counts
no_counts = record { changed = 0; damaged = 0 }

-- ---- the tests, in order

-- the tests 1 and 2, of the lengths of the image and the two lists
unfoldable pub scrub_tests : ℕ → ℕ → ℕ → List Test
scrub_tests image changed damaged =
    ltb image image_bytes refuses ShortImage image
    ∷ (ltb changed checked_words || ltb damaged checked_words) refuses ShortTable
    ∷ []

-- the verdict of a scrub
abbrev pub scrub_verdict : Lent → Result ⊤ Refusal
scrub_verdict before = first_of (scrub_tests (length before.image) (length before.changed) (length before.damaged))

-- ---- the contract

-- the contract of `scrub`: the caller's slices before and after, and its result r
pub record Scrubs (before after : Lent) (r : Result Counts Refusal) : Type 0 where
  pub result : r ≡ giving (scrub_verdict before) (counts_of before.image)
  pub left : after ≡ unless (scrub_verdict before) (left_of before) before
