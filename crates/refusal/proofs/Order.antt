-- Laws of `first_of`: what follows for the first test if a list refuses nothing, and the verdict of two lists in sequence. Assumes nothing.
use Prim.Native.Nat.{ℕ}
use mathlib.Core.Path.{◌≡◌, refl}
use mathlib.Core.Bool.{Bool, true, false}
use mathlib.Core.List.{List, [], ◌∷◌, ◌++◌}
use native.Mathlib.Omega.{arith}
use Rattle.std.specs.Prelude.{⊤, Result, Ok, Err}
use Rattle.refusal.specs.declared.Refusal.{Refusal}
use Rattle.refusal.specs.Refusal.{unless}
use Rattle.refusal.specs.Order.{Test, ◌refuses◌, first_of}

pub never : (refusal : Refusal) → ◌≡◌ {A = Result ⊤ Refusal} (Err refusal) (Ok tt) → ⊥
never refusal e = let z : ◌≡◌ {A = ℕ} 0 1 = cc in omega arith

-- if a list refuses nothing, its first test does not hold and the rest refuse nothing
pub passed : (holds : Bool) (refusal : Refusal) (rest : List Test) → first_of (holds refuses refusal ∷ rest) ≡ Ok tt → (holds ≡ false) × (first_of rest ≡ Ok tt)
unfolding first_of
passed true refusal rest e = absurd (never refusal e)
passed false refusal rest e = (refl, e)

-- the verdict of two lists, one after the other: that of the first, or of the second if the first passes
pub in-turn : (first rest : List Test) → unless (first_of first) (first_of rest) (first_of first) ≡ first_of (first ++ rest)
unfolding first_of
in-turn [] rest = refl
in-turn (true refuses refusal ∷ first) rest = refl
in-turn (false refuses refusal ∷ first) rest = in-turn first rest
