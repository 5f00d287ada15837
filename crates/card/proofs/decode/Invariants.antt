use mathlib.Core.Path.{◌≡◌}
use mathlib.Core.List.{List}
use Prim.Native.Nat.{ℕ, ◌-◌}
use Rattle.lists.specs.First.{first_from}
use Rattle.lists.proofs.Fill.{Filling}
use Rattle.map.specs.Map.{card_words}
use Rattle.card.specs.Card.{data_at, damaged_at, first_damaged, mending_below}
use Rattle.card.specs.declared.Mending.{Mending}
use Rattle.card.proofs.decode.Given as goal

-- the invariant: of the words before `word` none is damaged, their data are stored, and the mended ones are counted
pub record Decoding (image words₀ words : List ℕ) (mending : Mending) (word : ℕ) : Type 0 where
  pub none : first_from (damaged_at image) word (card_words - word) ≡ first_damaged image
  pub stored : Filling (data_at image) card_words words₀ words word
  pub mended : mending ≡ mending_below image word

abbrev pub invariant-loop-word : goal.invariant-loop-word
invariant-loop-word l = Decoding l.image l.initial.words l.words l.mending l.word

abbrev pub decreases-loop-word : goal.decreases-loop-word
decreases-loop-word l = card_words - l.word
