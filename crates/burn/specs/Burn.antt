-- Document 02, request 7: the next step from a present image to a wanted one, what stops it, and what a call leaves and returns. Words are compared
-- by all 16 bits. Assumes nothing.
use Rattle.std.specs.Prelude.{ℕ, ◌+◌, ◌*◌, ◌/◌, ◌%◌, ◌≡◌, Bool, true, false, not, List, [], ◌∷◌, eqb, leb, ltb, length, set, ⊤, Option, Some, None, Result, Ok, Err}
use Rattle.lists.specs.Pick.{pick}
use Rattle.lists.specs.First.{first_from}
use Rattle.refusal.specs.declared.Refusal.{Refusal}
use Rattle.refusal.specs.declared.Refusal.TheVariants.{ShortImage, UncheckedWord}
use Rattle.refusal.specs.Order.{Test, ◌refuses◌, first_of}
use Rattle.util.specs.Words.{word_at}
use Rattle.map.specs.Map.{card_words, image_bytes, checked}
use Rattle.burn.specs.declared.Step.{Step}
use Rattle.burn.specs.declared.Burnt.{Burnt}

-- ---- words that differ

-- whether the word differs between the two images
unfoldable pub differ_at : List ℕ → List ℕ → ℕ → Bool
differ_at present wanted word = not (eqb (word_at present word) (word_at wanted word))

-- the first word of the card that differs, or 832 if none does
abbrev pub first_differ : List ℕ → List ℕ → ℕ
first_differ present wanted = first_from (differ_at present wanted) 0 card_words

-- whether no word of the card differs
abbrev pub reached : List ℕ → List ℕ → Bool
reached present wanted = leb card_words (first_differ present wanted)

-- ---- the tests, in order

-- whether the word is unchecked and differs
unfoldable pub unchecked_at : List ℕ → List ℕ → ℕ → Bool
unchecked_at present wanted word = pick (checked word) false (differ_at present wanted word)

-- the first unchecked word that differs, or 832 if none does
abbrev pub first_unchecked : List ℕ → List ℕ → ℕ
first_unchecked present wanted = first_from (unchecked_at present wanted) 0 card_words

-- refusal 1 of the present image, 1 of the wanted one, 11
unfoldable pub burn_tests : List ℕ → List ℕ → List Test
burn_tests present wanted =
    ltb (length present) image_bytes refuses ShortImage (length present)
    ∷ ltb (length wanted) image_bytes refuses ShortImage (length wanted)
    ∷ ltb (first_unchecked present wanted) card_words refuses UncheckedWord (first_unchecked present wanted)
    ∷ []

-- the first of these tests that holds decides
abbrev pub burn_verdict : List ℕ → List ℕ → Result ⊤ Refusal
burn_verdict present wanted = first_of (burn_tests present wanted)

-- ---- the next step

-- what a step sets a word to: zero, or the wanted word if it already is zero
unfoldable pub next_value : List ℕ → List ℕ → ℕ → ℕ
next_value present wanted word = pick (eqb (word_at present word) 0) (word_at wanted word) 0

-- the step at the first word that differs; none if the wanted image is reached
unfoldable pub step_from : List ℕ → List ℕ → Option Step
step_from present wanted =
    let word = first_differ present wanted in
    pick (leb card_words word) None (Some (record { word = word; value = next_value present wanted word }))

-- the next step, or the refusal that stops it
abbrev pub or_stopped : Result ⊤ Refusal → Option Step → Result (Option Step) Refusal
or_stopped (Ok _) next = Ok next
or_stopped (Err refusal) next = Err refusal

-- what `next_step` returns
unfoldable pub next_of : List ℕ → List ℕ → Result (Option Step) Refusal
next_of present wanted = or_stopped (burn_verdict present wanted) (step_from present wanted)

-- ---- doing the step

-- the image with both bytes of the word set, the high byte first
unfoldable pub word_set : List ℕ → ℕ → ℕ → List ℕ
word_set image word value = set (set image (word * 2) (value / 256)) (word * 2 + 1) (value % 256)

-- the image after a step
abbrev pub done : List ℕ → Step → List ℕ
done image step = word_set image step.word step.value

-- the image after a call; unchanged if there is no step
abbrev pub leaves : Result (Option Step) Refusal → List ℕ → List ℕ
leaves (Err refusal) image = image
leaves (Ok None) image = image
leaves (Ok (Some step)) image = done image step

-- whether the image after a call is the wanted one; false after a refusal
abbrev pub reaches : Result (Option Step) Refusal → List ℕ → List ℕ → Bool
reaches (Err refusal) present wanted = false
reaches (Ok None) present wanted = true
reaches (Ok (Some step)) present wanted = reached (done present step) wanted

-- ---- the contract

-- what `burn` returns: the refusal, or the step and whether the wanted image is reached
abbrev pub burnt_of : Result (Option Step) Refusal → List ℕ → List ℕ → Result Burnt Refusal
burnt_of (Err refusal) present wanted = Err refusal
burnt_of (Ok step) present wanted = Ok (record { step = step; reached = reaches (Ok step) present wanted })

-- the contract of `burn`: its result, and the present image after the call
pub record Burns (present wanted after : List ℕ) (r : Result Burnt Refusal) : Type 0 where
  pub answer : r ≡ burnt_of (next_of present wanted) present wanted
  pub lent : after ≡ leaves (next_of present wanted) present
