-- The promises of the C calls determine their results: the inner calls' results are unique, and C's are those, converted. Assumes nothing.
use Prim.Native.Nat.{ℕ}
use mathlib.Core.Path.{◌≡◌, ap, sym, ◌∙◌}
use mathlib.Core.List.{List}
use lib.Ieee.{Float}
use Rattle.std.specs.Prelude.{⊤, Result}
use Rattle.refusal.specs.declared.Refusal.{Refusal}
use Rattle.frames.specs.declared.Frame.{Frame}
use Rattle.frames.specs.Frames.{Writes}
use Rattle.frames.proofs.Single.{single}
use Rattle.capi_frames.specs.declared.Answer.{Answer}
use Rattle.capi_frames.specs.Border.{frame_out, Carried}

-- if any two results of an inner call are equal, so are C's
pub carried : (P Q : Result Frame Refusal → Type 0) {r q : Answer} → ((a b : Result Frame Refusal) → P a → Q b → a ≡ b) → Carried P r → Carried Q q → r ≡ q
carried P Q one p s = p.out ∙ ap frame_out (one _ _ p.kept s.kept) ∙ sym s.out

-- for every frame call, plain or filtered: each promise is some `Writes`
pub single-out : (n : ℕ) (verdict : Result ⊤ Refusal) (t_a : Float) (mask : List ℕ) (bits : ℕ → ℕ) (d x y : List ℕ) (r q : Answer)
    → Carried (Writes n verdict t_a mask bits d x) r → Carried (Writes n verdict t_a mask bits d y) q → (r ≡ q) × (x ≡ y)
single-out n verdict t_a mask bits d x y r q p s = (
  carried (Writes n verdict t_a mask bits d x) (Writes n verdict t_a mask bits d y) (λ a b m k. (single m k).0) p s,
  (single p.kept s.kept).1,
)
