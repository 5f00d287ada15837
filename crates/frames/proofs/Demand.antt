-- Demand 3 for a frame: proves specs/Demand for any call that writes temperatures, and so for each of the three. Assumes nothing.
use Prim.Native.Nat.{ℕ, ◌≤◌}
use mathlib.Core.Path.{◌≡◌, refl, sym, ap, ◌∙◌, subst}
use mathlib.Core.Bool.{Bool, false}
use mathlib.Core.List.{List}
use lib.Dec.{T}
use lib.ListN.{get_or, length}
use lib.Ieee.{Float, nan, inf, fin, binary32, fits, of_bits, is_nan}
use lib.Ieee.Exact.{HasValue}
use lib.Ieee.Bits.{of_bits-to_bits}
use lib.Ieee.Fits.{add-fits}
use Rattle.std.specs.Prelude.{⊤, Result, Ok}
use Rattle.lists.specs.Pick.{pick}
use Rattle.lists.proofs.Written.{written_at}
use Rattle.root.specs.Root.{celsius}
use Rattle.root.specs.Demand.{Near4}
use Rattle.root.proofs.Demand as law
use Rattle.refusal.specs.Refusal.{unless}
use Rattle.refusal.specs.declared.Refusal.{Refusal}
use Rattle.formulas.specs.declared.Pixel.TheVariants.{Temperature, Lost}
use Rattle.formulas.specs.Pixel.{ranged_of, answer_of}
use Rattle.formulas.proofs.Lifted as lifted
use Rattle.pixels.specs.Pixels.{touched, held, answer_bits, temperature_bits, into}
use Rattle.pixels.proofs.Lost.{celsius-fits}
use Rattle.frames.specs.declared.Frame.{Frame}
use Rattle.frames.specs.Frames.{ToCall, PassCall, Writes, Temperatures, Passes, final_at, infrared_at, onward, to_verdict, pass_verdict}
use Rattle.frames.specs.Ranged.{ranged_at, ranged_verdict, RangedPasses}
use Rattle.frames.specs.Demand.{Written, Hot, AsGood, written_to, written_pass, written_ranged}
use Rattle.frames.proofs.Opened.{temperature-opened, one-pass-opened, ranged-opened}

-- a float with a value is not NaN
number : (t : Float) (s : Bool) (a b : ℕ) → HasValue t s a b → is_nan t ≡ false
unfolding is_nan
number nan s a b h = absurd h
number (inf z) s a b h = absurd h
number (fin z m e) s a b h = refl

-- what a call that writes temperatures promises
pub record Says (w : Written) : Type 0 where
  pub t_a : Float
  pub v : ℕ → Float
  pub before : List ℕ
  pub answer : Result Frame Refusal
  pub writes : Writes w.size w.verdict t_a w.mask (temperature_bits w.X v) before w.left answer
  pub long : w.verdict ≡ Ok tt → w.size ≤ length before
  pub x_fits : (k : ℕ) → T (fits binary32 (w.X k))

module _ {w : Written} (s : Says w) {k : ℕ} (h : Hot w k) where
  near-own : Near4 (w.X k) (celsius (w.X k))
  near-own = law.demand (w.X k) (s.x_fits k) h.from h.under

  answered : answer_of (w.X k) (s.v k) ≡ Temperature (celsius (w.X k))
  answered = ap (λ (b : Bool). pick b (Lost (s.v k)) (Temperature (celsius (w.X k)))) (number (celsius (w.X k)) _ _ _ near-own.degrees)

  -- the pixel's value after the call
  holds : held w.left k ≡ celsius (w.X k)
  holds =
      let d = s.before in
      let bits : ℕ → ℕ = temperature_bits w.X s.v in
      ap (λ (e : List ℕ). held e k) (s.writes.destination ∙ ap (λ (x : Result ⊤ Refusal). unless x (into w.size w.mask bits d) d) h.passed)
      ∙ ap (of_bits binary32) (written_at (touched w.mask) bits w.size d k 0 (s.long h.passed) h.below
      ∙ ap (λ (b : Bool). pick b (bits k) (get_or d k 0)) h.asked ∙ ap answer_bits answered)
      ∙ of_bits-to_bits binary32 (celsius (w.X k)) (celsius-fits (w.X k))

pub as-good : {w z : Written} → Says w → Says z → AsGood w z
as-good {w} {z} s t = record {
  near = λ k h. subst (Near4 (w.X k)) (sym (holds s h)) (near-own s h);
  grows = λ k j h i o. rw (holds s h, holds t i) (law.monotone _ _ (s.x_fits k) (t.x_fits j) h.from h.under i.from i.under o);
}

-- ---- each call

final-fits : (f : ToCall) (v : ℕ → Float) (k : ℕ) → T (fits binary32 (final_at f v k))
unfolding final_at
final-fits f v k = lifted.final-fits _ _ _ _

ranged-fits : (f : ToCall) (v : ℕ → Float) (k : ℕ) → T (fits binary32 (ranged_at f v k))
unfolding ranged_at ranged_of
ranged-fits f v k = add-fits binary32 _ _

-- a call that passes has a long enough destination
pub to-long : (f : ToCall) (d : List ℕ) → to_verdict f d ≡ Ok tt → f.size ≤ length d
unfolding to_verdict
to-long f d e = (temperature-opened _ _ _ _ e).long.destination

pub pass-long : (f : PassCall) (d : List ℕ) → pass_verdict f d ≡ Ok tt → f.ir.size ≤ length d
unfolding pass_verdict
pass-long f d e = (one-pass-opened _ _ _ _ _ _ e).long.destination

pub ranged-long : (f : PassCall) (d : List ℕ) → ranged_verdict f d ≡ Ok tt → f.ir.size ≤ length d
unfolding ranged_verdict
ranged-long f d e = (ranged-opened _ _ _ _ _ _ _ e).long.destination

pub to-says : (f : ToCall) (d d' : List ℕ) (r : Result Frame Refusal) → Temperatures f d d' r → Says (written_to f d d')
to-says f d d' r p = record { t_a = f.ambient; v = held d; before = d; answer = r; writes = p; long = to-long f d; x_fits = final-fits f (held d) }

pub pass-says : (f : PassCall) (d d' : List ℕ) (r : Result Frame Refusal) → Passes f d d' r → Says (written_pass f d d')
pass-says f d d' r p = record { t_a = _; v = infrared_at f.ir; before = d; answer = r; writes = p; long = pass-long f d; x_fits = final-fits (onward f) (infrared_at f.ir) }

pub ranged-says : (f : PassCall) (d d' : List ℕ) (r : Result Frame Refusal) → RangedPasses f d d' r → Says (written_ranged f d d')
ranged-says f d d' r p = record { t_a = _; v = infrared_at f.ir; before = d; answer = r; writes = p; long = ranged-long f d; x_fits = ranged-fits (onward f) (infrared_at f.ir) }
