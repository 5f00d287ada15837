-- A card as two lists, each in reading order: the data of its checked words, and its unchecked words. The index of each word in its list.
-- Assumes nothing.
use Rattle.std.specs.Prelude.{ℕ, Bool, not, ◌&&◌, List, eqb}
use Rattle.lists.specs.First.{first_from}
use Rattle.lists.specs.Count.{count_below}
use Rattle.map.specs.Map.{card_words, checked}

-- the two lists of a card
pub record Lists : Type 0 where
  pub checked : List ℕ
  pub unchecked : List ℕ

-- two lists as `Lists`
abbrev pub lists : List ℕ → List ℕ → Lists
lists c u = record { checked = c; unchecked = u }

-- whether a word belongs to the second list
abbrev pub unchecked : ℕ → Bool
unchecked word = not (checked word)

-- the number of unchecked words
abbrev pub unchecked_words : ℕ
unchecked_words = 18

-- the index of a word in the list of those words that pass the test `listed`: the number of such words before it
unfoldable pub list_index : (ℕ → Bool) → ℕ → ℕ
list_index listed word = count_below listed word

-- the number of the word at an index of that list; 832 if there is none
unfoldable pub listed_word : (ℕ → Bool) → ℕ → ℕ
listed_word listed index = first_from (λ word. listed word && eqb (list_index listed word) index) 0 card_words
