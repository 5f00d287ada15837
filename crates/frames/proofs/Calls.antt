-- A call's promise, from its parts; and calls whose arguments agree at every pixel promise the same. Assumes nothing.
use Prim.Native.Nat.{ℕ, ◌<◌}
use mathlib.Core.Path.{◌≡◌, refl, ap, ap₂, ◌∙◌, subst}
use mathlib.Core.Bool.{true}
use mathlib.Core.List.{List}
use lib.Dec.{T}
use lib.Ieee.{Float, binary32, fits, to_bits}
use Rattle.std.specs.Prelude.{⊤, Result, Ok, Err}
use Rattle.refusal.specs.Refusal.{unless}
use Rattle.refusal.specs.declared.Refusal.{Refusal}
use Rattle.formulas.specs.Pixel.{answer_of}
use Rattle.formulas.proofs.Lifted as lifted
use Rattle.pixels.specs.Pixels.{touched, answer_bits, into, lost_of}
use Rattle.pixels.proofs.Stages.{same-lost, same-into}
use Rattle.frames.specs.declared.Frame.{Frame}
use Rattle.frames.specs.declared.Wanted.{Wanted}
use Rattle.frames.specs.declared.Wanted.TheVariants.{Infrared, Temperature, Ranged}
use Rattle.frames.specs.Frames.{IrCall, Ranges, ToCall, PassCall, frame_of, answer_by, common, infrared_at, final_at, onward, ir_verdict, pass_verdict, Writes}
use Rattle.frames.specs.Ranged.{ranged_at, ranged_verdict}
use Rattle.frames.specs.Inner.{any_pass, Makes}

pub infrared-fits : (f : IrCall) (k : ℕ) → T (fits binary32 (infrared_at f k))
unfolding infrared_at
infrared-fits f k = lifted.infrared-fits f.constants (common f) f.compensation f.access_cp _ _ _ _ (f.access k)

module _ {n : ℕ} {verdict : Result ⊤ Refusal} {t_a : Float} {mask : List ℕ} {bits : ℕ → ℕ} {d : List ℕ} where
  pub refused : {x y : Refusal} {r : Result Frame Refusal} → verdict ≡ Err x → r ≡ Err y → y ≡ x → Writes n verdict t_a mask bits d d r
  refused e p q = record { answer = rw (e, p, q) refl; destination = rw e refl }

  pub done : {d' : List ℕ} {t lost : ℕ} → verdict ≡ Ok tt → t ≡ to_bits binary32 t_a → lost ≡ lost_of n mask bits → d' ≡ into n mask bits d
      → Writes n verdict t_a mask bits d d' (Ok (frame_of t lost))
  done e p q r = record { answer = rw e (ap₂ (λ (a c : ℕ). Ok (frame_of a c)) p q); destination = rw e r }

  -- the promise depends only on the bits of pixels that the mask asks for
  pub same_bits : (other : ℕ → ℕ) {d' : List ℕ} {r : Result Frame Refusal} → ((k : ℕ) → k < n → touched mask k ≡ true → bits k ≡ other k)
      → Writes n verdict t_a mask bits d d' r → Writes n verdict t_a mask other d d' r
  same_bits other e w = record {
    answer = w.answer ∙ ap (λ (c : ℕ). answer_by verdict (frame_of (to_bits binary32 t_a) c)) (same-lost n mask bits other e);
    destination = w.destination ∙ ap (λ (l : List ℕ). unless verdict l d) (same-into n mask bits other e d);
  }

-- ---- a pixel's bits depend only on its own infrared value

final-of : (f : ToCall) (v w : ℕ → Float) (k : ℕ) → v k ≡ w k → final_at f v k ≡ final_at f w k
unfolding final_at
final-of f v w k e = rw e

ranged-of : (f : ToCall) (v w : ℕ → Float) (k : ℕ) → v k ≡ w k → ranged_at f v k ≡ ranged_at f w k
unfolding ranged_at final_at
ranged-of f v w k e = rw e

-- ---- equal tables

-- the same call with other offsets, K_V, K_Ta and access terms
abbrev pub with_tables : IrCall → (ℕ → Float) → (ℕ → Float) → (ℕ → Float) → (ℕ → Float) → IrCall
with_tables f o v t a = record {
  size = f.size;
  constants = f.constants;
  settings = f.settings;
  ram = f.ram;
  compensation = f.compensation;
  access_cp = f.access_cp;
  table = f.table;
  offset = o;
  k_v = v;
  k_ta = t;
  access = a;
  pixels = f.pixels;
  mask = f.mask;
}

module _ (f : IrCall) (g : Ranges) (alpha : List Float) (o v t a : ℕ → Float)
    (same : (k : ℕ) → k < f.size → (f.offset k ≡ o k) × (f.k_v k ≡ v k) × (f.k_ta k ≡ t k) × (f.access k ≡ a k)) where
  infrared-same : (k : ℕ) → k < f.size → infrared_at f k ≡ infrared_at (with_tables f o v t a) k
  unfolding infrared_at common
  infrared-same k h = let s = same k h in rw (s.0, s.1, s.2, s.3)

  pub same-makes : (w : Wanted) {d d' : List ℕ} {r : Result Frame Refusal} → Makes w (any_pass f g alpha) d d' r → Makes w (any_pass (with_tables f o v t a) g alpha) d d' r
  unfolding ir_verdict pass_verdict ranged_verdict common
  same-makes Infrared m = same_bits _ (λ k h _. ap (to_bits binary32) (infrared-same k h)) m
  same-makes Temperature m =
      same_bits _ (λ k h _. ap₂ (λ (X x : Float). answer_bits (answer_of X x)) (final-of (onward (any_pass f g alpha)) _ _ k (infrared-same k h)) (infrared-same k h)) m
  same-makes Ranged m =
      same_bits _ (λ k h _. ap₂ (λ (X x : Float). answer_bits (answer_of X x)) (ranged-of (onward (any_pass f g alpha)) _ _ k (infrared-same k h)) (infrared-same k h)) m

-- the same call with an equal number
pub makes-with : (w : Wanted) (f : Float → PassCall) {x y : Float} {d d' : List ℕ} {r : Result Frame Refusal} → x ≡ y → Makes w (f x) d d' r → Makes w (f y) d d' r
makes-with w f {d = d} {d' = d'} {r = r} e p = subst (λ (z : Float). Makes w (f z) d d' r) e p
