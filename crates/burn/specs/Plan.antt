-- Document 02, request 7: the plan, defined without the calls, and calls in sequence. Assumes nothing.
use Rattle.std.specs.Prelude.{ℕ, zero, suc, List, [], ◌∷◌, ◌++◌, eqb, Option, Some, None, Result, Ok, Err}
use Rattle.lists.specs.Pick.{pick}
use Rattle.refusal.specs.declared.Refusal.{Refusal}
use Rattle.util.specs.Words.{word_at}
use Rattle.map.specs.Map.{card_words}
use Rattle.burn.specs.declared.Step.{Step}
use Rattle.burn.specs.Burn.{next_of, leaves}

-- ---- the plan

-- the step that sets a word to a value
abbrev pub sets : ℕ → ℕ → Step
sets word value = record { word = word; value = value }

-- the steps that change a word from old to new: zero it unless old is zero, then write new unless that is zero; none if they are equal
abbrev pub steps_for : ℕ → ℕ → ℕ → List Step
steps_for word old new =
    pick (eqb old new) [] (pick (eqb old 0) [] (sets word 0 ∷ []) ++ pick (eqb new 0) [] (sets word new ∷ []))

-- the steps of one word of the two images
unfoldable pub steps_at : List ℕ → List ℕ → ℕ → List Step
steps_at present wanted word = steps_for word (word_at present word) (word_at wanted word)

-- the steps of the words below n, in ascending order
unfoldable pub plan_below : ℕ → List ℕ → List ℕ → List Step
plan_below zero present wanted = []
plan_below (suc n) present wanted = plan_below n present wanted ++ steps_at present wanted n

-- the steps of all words of the card
abbrev pub plan : List ℕ → List ℕ → List Step
plan present wanted = plan_below card_words present wanted

-- ---- calls

-- the present image after k calls
unfoldable pub called : ℕ → List ℕ → List ℕ → List ℕ
called zero present wanted = present
called (suc k) present wanted = called k (leaves (next_of present wanted) present) wanted

-- the step that a call returns, if there is one
abbrev pub step_in : Result (Option Step) Refusal → List Step
step_in (Err refusal) = []
step_in (Ok None) = []
step_in (Ok (Some step)) = step ∷ []

-- the steps that k calls return
unfoldable pub answered : ℕ → List ℕ → List ℕ → List Step
answered zero present wanted = []
answered (suc k) present wanted = step_in (next_of present wanted) ++ answered k (leaves (next_of present wanted) present) wanted
