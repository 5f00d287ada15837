-- Each pixel is of exactly one subpage, the paper's readings, and one answer of the mask's writer. Assumes nothing.
use Prim.Native.Nat.{ℕ, zero, suc, ◌+◌, ◌%◌, ◌<◌}
use mathlib.Core.Path.{◌≡◌, refl, sym, ap, ◌∙◌}
use mathlib.Core.List.{List}
use native.Mathlib.Nat.{mod-lt}
use native.Mathlib.Omega.{arith}
use lib.Dec.{eqb}
use Rattle.lists.specs.Pick.{pick}
use Rattle.lists.specs.Written.{filled}
use Rattle.std.specs.Prelude.{⊤, Result}
use Rattle.refusal.specs.declared.Refusal.{Refusal}
use Rattle.refusal.specs.Refusal.{unless}
use Rattle.mlx90640.specs.Pixels.{row, column}
use Rattle.rows640.specs.declared.Pattern.{Pattern}
use Rattle.rows640.specs.declared.Pattern.TheVariants.{Chess, Interleave}
use Rattle.rows640.specs.Mask.{pixel_count, mask_at, Masks, OneSubpage, ChessReadings}

-- a remainder by two is 0 or 1
either : (n : ℕ) → n < 2 → pick (eqb n 0) 1 0 + pick (eqb n 1) 1 0 ≡ 1
either zero h = refl
either (suc zero) h = refl
either (suc (suc n)) h = absurd (let z : ⊥ = omega arith in z)

pub one-subpage : (p : Pattern) (k : ℕ) → OneSubpage p k
unfolding mask_at
one-subpage Chess k = record { one = either ((row k + column k) % 2) (mod-lt (row k + column k) (omega arith)) }
one-subpage Interleave k = record { one = either (row k % 2) (mod-lt (row k) (omega arith)) }

pub chess-readings : ChessReadings
unfolding mask_at
chess-readings = record { zero = (refl, refl, refl, refl); one = (refl, refl, refl, refl) }

pub single : (subpage : ℕ) (p : Pattern) (d x y : List ℕ) (r q : Result ⊤ Refusal) → Masks subpage p d x r → Masks subpage p d y q → (r ≡ q) × (x ≡ y)
single subpage p d x y r q m n =
    let e = m.verdict ∙ sym n.verdict in
    (e, m.lent ∙ ap (λ (v : Result ⊤ Refusal). unless v (filled (mask_at subpage p) pixel_count d) d) e ∙ sym n.lent)
