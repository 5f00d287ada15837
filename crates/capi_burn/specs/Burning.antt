-- The results of the burning calls as C has them. Assumes nothing.
use Rattle.std.specs.Prelude.{ℕ, ◌≡◌, Bool, true, false, List, Option, Some, None, Result, Ok, Err}
use Rattle.lists.specs.Pick.{pick}
use Rattle.refusal.specs.declared.Refusal.{Refusal}
use Rattle.refusal.specs.Refusal.{told_of}
use Rattle.map.specs.Map.{card_words}
use Rattle.burn.specs.declared.Step.{Step}
use Rattle.burn.specs.declared.Burnt.{Burnt}
use Rattle.burn.specs.Burn.{Burns}
use Rattle.capi_burn.specs.declared.Burn.{Burn}

-- a test as 1 or 0
abbrev pub flag_of : Bool → ℕ
flag_of test = pick test 1 0

-- whether there is no step left to do
abbrev pub is_reached : Result (Option Step) Refusal → Bool
is_reached (Err refusal) = false
is_reached (Ok None) = true
is_reached (Ok (Some step)) = false

-- the result as C has it: the refusal's number, place and value, or the step; word 832 is no step
abbrev pub burning_out : Result (Option Step) Refusal → ℕ → Burn
burning_out (Err r) reached =
    record { number = (told_of r).number; place = (told_of r).place; value = (told_of r).value; word = card_words; bits = 0; reached = reached }
burning_out (Ok None) reached = record { number = 0; place = 0; value = 0; word = card_words; bits = 0; reached = reached }
burning_out (Ok (Some step)) reached = record { number = 0; place = 0; value = 0; word = step.word; bits = step.value; reached = reached }

-- the result of a burn as C has it; after a refusal the wanted image is not reached
abbrev pub burnt_out : Result Burnt Refusal → Burn
burnt_out (Err refusal) = burning_out (Err refusal) 0
burnt_out (Ok burnt) = burning_out (Ok burnt.step) (flag_of burnt.reached)

-- some inner result meets the burn's promise `Burns` for the images before and after; and C's result is that one, converted
pub record Burning (present wanted after : List ℕ) (r : Burn) : Type 0 where
  pub inner : Result Burnt Refusal
  pub burns : Burns present wanted after inner
  pub out : r ≡ burnt_out inner
