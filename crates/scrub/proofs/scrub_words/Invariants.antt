use mathlib.Core.Path.{◌≡◌}
use mathlib.Core.List.{List}
use Prim.Native.Nat.{ℕ, ◌-◌, ◌≤◌}
use Rattle.map.specs.Map.{card_words}
use Rattle.card.specs.Card.{damaged_at}
use Rattle.scrub.specs.Scrub.{mended_at}
use Rattle.scrub.proofs.Step.{up_to}
use Rattle.scrub.proofs.Noted.{Noted}
use Rattle.scrub.proofs.scrub_words.Given as goal

-- the invariant: the words before `word` are mended and listed
pub record Scrubbing (image₀ changed₀ damaged₀ image changed damaged : List ℕ) (mended broken word : ℕ) : Type 0 where
  pub within : word ≤ card_words
  pub bytes : image ≡ up_to image₀ word
  pub first : Noted (mended_at image₀) changed₀ changed mended word
  pub second : Noted (damaged_at image₀) damaged₀ damaged broken word

abbrev pub invariant-loop-word : goal.invariant-loop-word
invariant-loop-word l =
    Scrubbing l.initial.image l.initial.changed l.initial.damaged l.image l.changed l.damaged l.mended l.broken l.word

abbrev pub decreases-loop-word : goal.decreases-loop-word
decreases-loop-word l = card_words - l.word
