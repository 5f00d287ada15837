use mathlib.Core.Path.{◌≡◌}
use mathlib.Core.List.{List}
use Prim.Native.Nat.{ℕ, ◌-◌, ◌≤◌}
use lib.ListN.{get_or}
use Rattle.lists.proofs.Fill.{Filling}
use Rattle.util.specs.Words.{word_at}
use Rattle.map.specs.Map.{card_words, checked_words, checked}
use Rattle.listing.specs.Index.{unchecked, unchecked_words, list_index}
use Rattle.listing.proofs.Kept.{entry}
use Rattle.listing.proofs.keep_words.Given as goal

-- the invariant: the words before `word` are stored, and `before` of them are checked
pub record Keeping (image words list₀ others₀ list others : List ℕ) (word before : ℕ) : Type 0 where
  pub within : word ≤ card_words
  pub counted : before ≡ list_index checked word
  pub first : Filling (entry checked (λ k. get_or words k 0)) checked_words list₀ list (list_index checked word)
  pub second : Filling (entry unchecked (word_at image)) unchecked_words others₀ others (list_index unchecked word)

abbrev pub invariant-loop-word : goal.invariant-loop-word
invariant-loop-word l = Keeping l.image l.words l.initial.data l.initial.others l.data l.others l.word l.before

abbrev pub decreases-loop-word : goal.decreases-loop-word
decreases-loop-word l = card_words - l.word
