-- The verdict of two lists of tests, one after the other, by that of the first. Assumes nothing.
use mathlib.Core.Path.{◌≡◌, sym, ap, ◌∙◌}
use mathlib.Core.List.{List, ◌++◌}
use Rattle.std.specs.Prelude.{⊤, Result, Ok, Err}
use Rattle.refusal.specs.declared.Refusal.{Refusal}
use Rattle.refusal.specs.Refusal.{unless}
use Rattle.refusal.specs.Order.{Test, first_of}
use Rattle.refusal.proofs.Order.{in-turn}

pub stops : (first rest : List Test) (v : Result ⊤ Refusal) (refusal : Refusal) → v ≡ first_of first → v ≡ Err refusal → Err refusal ≡ first_of (first ++ rest)
stops first rest v refusal e h = ap (λ (w : Result ⊤ Refusal). unless w (first_of rest) w) (sym h ∙ e) ∙ in-turn first rest

pub goes_on : (first rest : List Test) (v : Result ⊤ Refusal) (t : ⊤) → v ≡ first_of first → v ≡ Ok t → first_of rest ≡ first_of (first ++ rest)
goes_on first rest v t e h = ap (λ (w : Result ⊤ Refusal). unless w (first_of rest) w) (sym h ∙ e) ∙ in-turn first rest
