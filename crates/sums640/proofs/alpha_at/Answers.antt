-- `sums640::alpha_at` meets its contract: both parts are exact in f32, and they are added and divided. Assumes nothing.
use mathlib.Core.Path.{◌≡◌, ap, ap₂, ◌∙◌}
use Prim.Native.Nat.{ℕ, ◌+◌, ◌/◌, ◌%◌}
use native.Mathlib.Omega.{arith}
use lib.Ieee.{Float}
use lib.IntN.{ℤ}
use mir.Syntax.{w32}
use mir.Facts.{to_z-of_z}
use Rattle.floats.specs.Floats.{real, power_of_two, ◌⊕◌, ◌⊘◌}
use Rattle.util.specs.Words.{word_at}
use Rattle.sums640.specs.Sums.{alpha_part, base_at, alpha_base_at, alpha_at}
use Rattle.sums640.proofs.Range.{alpha-base-mag, alpha-rest-mag, held}
use Rattle.sums640.proofs.Shared as shared
use Rattle.sums640.proofs.alpha_at.Goals as goal

pub base-requires-clause-pos_bound : goal.base-requires-clause-pos_bound
base-requires-clause-pos_bound c =
    let p = shared.alphas c.requires.shared in
    (shared.row_small p c.args.pixel c.requires.pixel_lt_pixel_count.0, shared.column-small p c.args.pixel c.requires.pixel_lt_pixel_count.0)

-- the two parts of the base are alpha's base
base-is : (w : ℕ → ℕ) (pixel : ℕ) (a b z : ℤ) → a ≡ b → b ≡ z → z ≡ base_at w alpha_part pixel → a ≡ alpha_base_at w pixel
unfolding alpha_base_at
base-is w pixel a b z d e f = d ∙ e ∙ f

pub int_to_float-sum : goal.int_to_float-sum
int_to_float-sum c = let s = c in rw (base-is _ _ _ _ _ (to_z-of_z {w = w32} (record { sfits = c.base.type_inv })) c.base.ensures (shared.base-is (shared.alphas c.requires.shared) c.args.pixel c.requires.pixel_lt_pixel_count.0)) (held _ (omega (arith, alpha-base-mag (word_at s.args.image.now) s.args.pixel)))

pub int_to_float-sum-2 : goal.int_to_float-sum-2
int_to_float-sum-2 c = let s = c in rw ((to_z-of_z {w = w32} (record { sfits = c.alpha_rest_at.type_inv }) ∙ c.alpha_rest_at.ensures)) (held _ (omega (arith, alpha-rest-mag (word_at s.args.image.now) s.args.pixel)))

pub returns : goal.returns
unfolding alpha_at
returns c = ap₂ (λ (x y : Float). x ⊘ y) (ap₂ (λ (x y : Float). x ⊕ y) (ap real (base-is _ _ _ _ _ (to_z-of_z {w = w32} (record { sfits = c.base.type_inv })) c.base.ensures (shared.base-is (shared.alphas c.requires.shared) c.args.pixel c.requires.pixel_lt_pixel_count.0))) (ap real ((to_z-of_z {w = w32} (record { sfits = c.alpha_rest_at.type_inv }) ∙ c.alpha_rest_at.ensures)))) (c.exp2.ensures ∙ ap (λ (n : ℕ). power_of_two (30 + n / 4096 % 16)) c.word_at-scales.ensures)
