-- A pixel is lost exactly if its value is NaN: proves specs/Lost. Assumes nothing.
use Prim.Native.Nat.{ℕ, ◌<◌, ◌≤◌}
use mathlib.Core.Path.{◌≡◌, refl, ap, ◌∙◌}
use mathlib.Core.Bool.{Bool, true, false}
use mathlib.Core.List.{List}
use lib.Dec.{T, eqb}
use lib.ListN.{get_or, length}
use lib.Ieee.{Float, nan, inf, fin, binary32, fits, is_nan, add, sub, mul, div}
use borrow.Author.Tests.{eq-eqb, eqb-true}
use Rattle.std.specs.Prelude.{⊤, Result, Ok}
use Rattle.lists.specs.Pick.{pick}
use Rattle.lists.proofs.Written.{written_at}
use Rattle.floats.specs.Floats.{◌⊕◌, ◌⊖◌, ◌⊗◌, ◌⊘◌}
use Rattle.floats.specs.Constants.{pattern}
use Rattle.floats.proofs.Nan.{pattern-tells}
use Rattle.root.specs.Root.{root, celsius}
use Rattle.refusal.specs.Refusal.{unless}
use Rattle.refusal.specs.declared.Refusal.{Refusal}
use Rattle.formulas.specs.declared.Pixel.TheVariants.{Temperature, Lost}
use Rattle.formulas.specs.declared.Range.{Range}
use Rattle.formulas.specs.Pixel.{ranged_of}
use Rattle.pixels.specs.Pixels.{touched, held, answer_bits, temperature_bits, into}
use Rattle.pixels.proofs.Lost.{celsius-fits}
use Rattle.frames.specs.declared.Frame.{Frame}
use Rattle.frames.specs.Frames.{IrCall, ToCall, PassCall, Writes, Infrareds, Temperatures, Passes, infrared_at, final_at, onward, ir_verdict, to_verdict, pass_verdict}
use Rattle.frames.specs.Ranged.{ranged_at, ranged_verdict, RangedPasses}
use Rattle.frames.specs.Lost.{LostExactly, LostInfrared, LostTo, LostPass, LostRanged, NoBasic}
use Rattle.frames.proofs.Opened.{infrared-opened}
use Rattle.frames.proofs.Calls.{infrared-fits}
use Rattle.frames.proofs.Demand.{to-long, pass-long, ranged-long}

-- a pixel that the mask asks for holds its bits
module _ {n : ℕ} {verdict : Result ⊤ Refusal} {t_a : Float} {mask : List ℕ} (bits : ℕ → ℕ) {d d' : List ℕ} {r : Result Frame Refusal} (w : Writes n verdict t_a mask bits d d' r) (e : verdict ≡ Ok tt) (l : n ≤ length d) where
  holds : (k : ℕ) → k < n → touched mask k ≡ true → get_or d' k 0 ≡ bits k
  holds k h a =
      ap (λ (x : List ℕ). get_or x k 0) (w.destination ∙ ap (λ (v : Result ⊤ Refusal). unless v (into n mask bits d) d) e)
      ∙ written_at (touched mask) bits n d k 0 l h ∙ ap (λ (b : Bool). pick b (bits k) (get_or d k 0)) a

-- the bits of a temperature, or the NaN pattern
answered : (t v : Float) (b : Bool) → is_nan t ≡ b → T (fits binary32 t) → eqb (answer_bits (pick b (Lost v) (Temperature t))) pattern ≡ b
answered t v true e f = eq-eqb pattern pattern refl
answered t v false e f = pattern-tells t f ∙ e

lost-temperature : (X v : ℕ → Float) (k : ℕ) → eqb (temperature_bits X v k) pattern ≡ is_nan (celsius (X k))
lost-temperature X v k = answered (celsius (X k)) (v k) (is_nan (celsius (X k))) refl (celsius-fits (X k))

temperatures-lost : {n : ℕ} {verdict : Result ⊤ Refusal} {t_a : Float} {mask : List ℕ} (X v : ℕ → Float) {d d' : List ℕ} {r : Result Frame Refusal} → Writes n verdict t_a mask (temperature_bits X v) d d' r
    → verdict ≡ Ok tt → n ≤ length d → LostExactly n mask d' (λ (k : ℕ). celsius (X k))
temperatures-lost X v w e l = record { at = λ k h a. ap (λ (x : ℕ). eqb x pattern) (holds _ w e l k h a) ∙ lost-temperature X v k }

ir-long : (f : IrCall) (d : List ℕ) → ir_verdict f d ≡ Ok tt → f.size ≤ length d
unfolding ir_verdict
ir-long f d e = (infrared-opened _ _ _ _ e).destination

-- ---- each call, if it passes

pub infrared-lost : (f : IrCall) (d d' : List ℕ) (r : Result Frame Refusal) → Infrareds f d d' r → ir_verdict f d ≡ Ok tt → LostInfrared f d'
infrared-lost f d d' r w e = record { at = λ k h a. ap (λ (x : ℕ). eqb x pattern) (holds _ w e (ir-long f d e) k h a) ∙ pattern-tells (infrared_at f k) (infrared-fits f k) }

pub to-lost : (f : ToCall) (d d' : List ℕ) (r : Result Frame Refusal) → Temperatures f d d' r → to_verdict f d ≡ Ok tt → LostTo f (held d) d'
to-lost f d d' r w e = temperatures-lost (final_at f (held d)) (held d) w e (to-long f d e)

pub pass-lost : (f : PassCall) (d d' : List ℕ) (r : Result Frame Refusal) → Passes f d d' r → pass_verdict f d ≡ Ok tt → LostPass f d'
pass-lost f d d' r w e = temperatures-lost (final_at (onward f) (infrared_at f.ir)) (infrared_at f.ir) w e (pass-long f d e)

pub ranged-lost : (f : PassCall) (d d' : List ℕ) (r : Result Frame Refusal) → RangedPasses f d d' r → ranged_verdict f d ≡ Ok tt → LostRanged f d'
ranged-lost f d d' r w e = temperatures-lost (ranged_at (onward f) (infrared_at f.ir)) (infrared_at f.ir) w e (ranged-long f d e)

-- ---- if the basic temperature is NaN, so is the temperature of the second pass

times-nan : (x : Float) → x ⊗ nan ≡ nan
unfolding mul
times-nan nan = refl
times-nan (inf s) = refl
times-nan (fin s m e) = refl

plus-nan : (x : Float) → x ⊕ nan ≡ nan
unfolding add
plus-nan nan = refl
plus-nan (inf s) = refl
plus-nan (fin s m e) = refl

over-nan : (x : Float) → x ⊘ nan ≡ nan
unfolding div
over-nan nan = refl
over-nan (inf s) = refl
over-nan (fin s m e) = refl

less-from-nan : (x : Float) → nan ⊖ x ≡ nan
unfolding sub add
less-from-nan x = refl

from-nan : (x : Float) → nan ⊕ x ≡ nan
unfolding add
from-nan x = refl

none-of-none : (g : Range) (tAr A v : Float) → ranged_of g tAr A v nan ≡ nan
unfolding ranged_of
none-of-none g tAr A v = rw (less-from-nan, times-nan, plus-nan, times-nan, over-nan) (from-nan tAr)

ranged-none : (f : ToCall) (v : ℕ → Float) (k : ℕ) → celsius (final_at f v k) ≡ nan → ranged_at f v k ≡ nan
unfolding ranged_at
ranged-none f v k e = rw e (none-of-none _ _ _ _)

root-nan : celsius nan ≡ nan
unfolding celsius root sub add
root-nan = refl

nan-is-none : is_nan nan ≡ true
unfolding is_nan
nan-is-none = refl

pub no-basic : (f : PassCall) (d d' : List ℕ) (r : Result Frame Refusal) → RangedPasses f d d' r → ranged_verdict f d ≡ Ok tt → NoBasic f d'
no-basic f d d' r w e = record {
  at = λ k h a n.
      let none = ap celsius (ranged-none (onward f) (infrared_at f.ir) k n) ∙ root-nan in
      eqb-true _ _ ((ranged-lost f d d' r w e).at k h a ∙ ap is_nan none ∙ nan-is-none);
}
