-- What any number of calls in sequence do, from images that nothing stops. Assumes nothing.
use Rattle.std.specs.Prelude.{ℕ, suc, ◌-◌, ◌*◌, ◌/◌, ◌<◌, ◌≤◌, ◌≡◌, true, false, leb, length, get_or, take, drop, Ok}
use mathlib.Core.List.{List, ◌++◌, foldl}
use Rattle.lists.specs.All.{All}
use Rattle.lists.specs.Count.{count_below}
use Rattle.map.specs.Map.{card_words, image_bytes, checked}
use Rattle.burn.specs.declared.Step.{Step}
use Rattle.burn.specs.Burn.{differ_at, reached, burn_verdict, next_of, done, reaches}
use Rattle.burn.specs.Plan.{plan, called, answered}

-- the step is of a checked word that differed at the start
pub record Differed (present wanted : List ℕ) (step : Step) : Type 0 where
  pub word : step.word < card_words
  pub differs : differ_at present wanted step.word ≡ true
  pub checks : checked step.word ≡ true

-- What k calls do. They do the first k steps of the plan. The plan from the image they leave is the rest of it, so an interruption loses no step and
-- adds none, and nothing stops the rest. The wanted image is reached exactly when the plan is done, and the next call says whether its own step
-- finishes it. Bytes of words that did not differ, and bytes past the card, are unchanged, and no step is of such a word.
pub record Runs (present wanted : List ℕ) (k : ℕ) : Type 0 where
  pub steps : answered k present wanted ≡ take k (plan present wanted)
  pub image : called k present wanted ≡ foldl done present (take k (plan present wanted))
  pub rest : plan (called k present wanted) wanted ≡ drop k (plan present wanted)
  pub passes : burn_verdict (called k present wanted) wanted ≡ Ok tt
  pub reaches_at : reached (called k present wanted) wanted ≡ leb (length (plan present wanted)) k
  pub tells : reaches (next_of (called k present wanted) wanted) (called k present wanted) wanted ≡ leb (length (plan present wanted)) (suc k)
  pub kept : (i : ℕ) → (i / 2 < card_words → differ_at present wanted (i / 2) ≡ false) → get_or (called k present wanted) i 0 ≡ get_or present i 0
  pub differed : All (Differed present wanted) (answered k present wanted)

-- every entry is below 256, as in a slice of bytes
abbrev pub Bytes : List ℕ → Type 0
Bytes l = (i : ℕ) → get_or l i 0 < 256

-- the wanted card, followed by the present bytes past it
abbrev pub burnt_to : List ℕ → List ℕ → List ℕ
burnt_to present wanted = take image_bytes wanted ++ drop image_bytes present

-- How a burn ends. The plan has at most two steps for each word that differs, and at most 1,628 in all. After that many calls, or more, the wanted
-- image is there. After an interruption at any step j the new plan has j steps fewer, and doing it reaches the wanted image too. Whenever it is
-- reached, the card's bytes are the wanted ones.
pub record Ends (present wanted : List ℕ) : Type 0 where
  pub two_a_word : length (plan present wanted) ≤ 2 * count_below (differ_at present wanted) card_words
  pub at_most : length (plan present wanted) ≤ 1628
  pub there : (k : ℕ) → length (plan present wanted) ≤ k → called k present wanted ≡ burnt_to present wanted
  pub left : (j : ℕ) → length (plan (called j present wanted) wanted) ≡ length (plan present wanted) - j
  pub after_cut : (j k : ℕ) → length (plan (called j present wanted) wanted) ≤ k → called k (called j present wanted) wanted ≡ burnt_to present wanted
  pub is_wanted : (k : ℕ) → reached (called k present wanted) wanted ≡ true → take image_bytes (called k present wanted) ≡ take image_bytes wanted
