-- Refusals in order: the first test of a list that holds decides the verdict. Assumes nothing.
use Rattle.std.specs.Prelude.{Bool, List, [], ◌∷◌, ⊤, Result, Ok, Err}
use Rattle.lists.specs.Pick.{pick}
use Rattle.refusal.specs.declared.Refusal.{Refusal}

-- one test: whether it holds, and the refusal to return if it does
infix 68 ◌refuses◌
pub data Test : Type 0 where
  ◌refuses◌ : Bool → Refusal → Test

-- the refusal of the first test that holds; `Ok` if none does
unfoldable pub first_of : List Test → Result ⊤ Refusal
first_of [] = Ok tt
first_of (holds refuses refusal ∷ rest) = pick holds (Err refusal) (first_of rest)
