-- For inner functions and laws only: what a gate that lets pass has found out, and what a step is that is due. Assumes nothing.
use Rattle.std.specs.Prelude.{ℕ, ◌<◌, ◌≤◌, ◌≡◌, List, length}
use Rattle.map.specs.Map.{card_words, image_bytes}
use Rattle.burn.specs.declared.Step.{Step}
use Rattle.burn.specs.Burn.{first_differ, first_unchecked, next_value}

pub record Passed (present wanted : List ℕ) : Type 0 where
  pub here : image_bytes ≤ length present
  pub there : image_bytes ≤ length wanted
  pub unchecked : card_words ≤ first_unchecked present wanted

pub record IsDue (present wanted : List ℕ) (step : Step) : Type 0 where
  pub passed : Passed present wanted
  pub word : step.word ≡ first_differ present wanted
  pub value : step.value ≡ next_value present wanted step.word
  pub within : step.word < card_words
