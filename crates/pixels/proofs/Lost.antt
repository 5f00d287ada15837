-- A lost pixel is one that is written as the pattern: one that had no temperature, and no other. Assumes nothing.
use Prim.Native.Nat.{ℕ}
use native.Mathlib.Omega.{arith}
use mathlib.Core.Path.{◌≡◌, refl, sym, ap, ◌∙◌}
use mathlib.Core.Bool.{Bool, true, false}
use lib.Dec.{T}
use lib.Ieee.{Float, binary32, fits, to_bits, is_nan}
use borrow.Author.Tests.{eq-eqb}
use lib.Ieee.Fits.{sub-fits}
use Rattle.lists.specs.Pick.{pick}
use Rattle.floats.specs.Constants.{pattern, freezing}
use Rattle.floats.proofs.Nan.{pattern-tells}
use Rattle.root.specs.Root.{root, celsius}
use Rattle.formulas.specs.declared.Pixel.TheVariants.{Temperature, Lost}
use Rattle.formulas.specs.Pixel.{decided}
use Rattle.pixels.specs.Blocks.{lost_flag}

pub celsius-fits : (x : Float) → T (fits binary32 (celsius x))
unfolding celsius
celsius-fits x = sub-fits binary32 (root x) freezing

-- a number's flag tells whether it is none
pub number-flag : (x : Float) → T (fits binary32 x) → lost_flag (to_bits binary32 x) ≡ pick (is_nan x) 1 0
number-flag x f = ap (λ (b : Bool). pick b 1 0) (pattern-tells x f)

-- what had no temperature is flagged, and what has one is not
pub lost-flag : lost_flag pattern ≡ 1
lost-flag = ap (λ (b : Bool). pick b 1 0) (eq-eqb pattern pattern refl)

pub told-flag : (t v x : Float) → T (fits binary32 t) → decided t v ≡ Temperature x → lost_flag (to_bits binary32 x) ≡ 0
told-flag t v x f e = go (is_nan t) refl e
  where
    go : (b : Bool) → is_nan t ≡ b → pick b (Lost v) (Temperature t) ≡ Temperature x → lost_flag (to_bits binary32 x) ≡ 0
    go true q p = absurd (let z : ◌≡◌ {A = ℕ} 0 1 = cc in let n : ⊥ = omega arith in n)
    go false q p =
        let same : t ≡ x = cc in
        ap (λ (y : Float). lost_flag (to_bits binary32 y)) (sym same) ∙ number-flag t f ∙ ap (λ (b : Bool). pick b 1 0) q
