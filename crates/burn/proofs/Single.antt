-- What `burn` says admits one answer: of two that it says of the same images, answer and image are the same. Assumes nothing.
use Prim.Native.Nat.{ℕ}
use mathlib.Core.Path.{◌≡◌, sym, ◌∙◌}
use mathlib.Core.List.{List}
use Rattle.std.specs.Prelude.{Option, Result}
use Rattle.refusal.specs.declared.Refusal.{Refusal}
use Rattle.burn.specs.declared.Step.{Step}
use Rattle.burn.specs.declared.Burnt.{Burnt}
use Rattle.burn.specs.Burn.{next_of, Burns}

pub single : {present wanted x y : List ℕ} {r s : Result Burnt Refusal} → Burns present wanted x r → Burns present wanted y s → (r ≡ s) × (x ≡ y)
single a b = (a.answer ∙ sym b.answer, a.lent ∙ sym b.lent)

-- the same of `next_step`
pub single-next : (present wanted : List ℕ) {n m : Result (Option Step) Refusal} → n ≡ next_of present wanted → m ≡ next_of present wanted → n ≡ m
single-next present wanted e f = e ∙ sym f
