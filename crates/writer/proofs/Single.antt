-- The contract of `write` determines its result. Assumes nothing.
use Prim.Native.Nat.{ℕ}
use mathlib.Core.Path.{◌≡◌, ap, sym, ◌∙◌}
use mathlib.Core.List.{List}
use Rattle.std.specs.Prelude.{⊤, Result}
use Rattle.refusal.specs.declared.Refusal.{Refusal}
use Rattle.refusal.specs.Refusal.{unless}
use Rattle.listing.specs.Index.{Lists}
use Rattle.writer.specs.Write.{Writes}

both : {A : Type 0} {a b : Result ⊤ Refusal} (new old : A) {x y : A} → a ≡ b → x ≡ unless a new old → y ≡ unless b new old → x ≡ y
both new old e p q = p ∙ ap (λ (z : Result ⊤ Refusal). unless z new old) e ∙ sym q

pub single : {from : Lists} {before x y : List ℕ} {r q : Result ⊤ Refusal} → Writes from before x r → Writes from before y q → (r ≡ q) × (x ≡ y)
single p s = let e = p.verdict ∙ sym s.verdict in (e, both _ _ e p.image s.image)
