-- What follows about lengths and the basic range if a gate passes. Assumes nothing.
use Prim.Native.Nat.{ℕ, ◌≤◌, ◌<◌, ◌*◌}
use mathlib.Core.Path.{◌≡◌, refl, ◌∙◌}
use mathlib.Core.List.{List, ◌++◌}
use lib.IntN.{ℤ}
use lib.Ieee.{Float}
use borrow.Author.Tests.{ltb-false, leb-false}
use Rattle.std.specs.Prelude.{⊤, Result, Ok, Err}
use Rattle.refusal.specs.declared.Refusal.{Refusal}
use Rattle.refusal.specs.Refusal.{unless}
use Rattle.refusal.specs.Order.{Test, first_of}
use Rattle.refusal.proofs.Order.{passed, in-turn, never}
use Rattle.ranges.specs.Corners.{corner_tests}
use Rattle.formulas.specs.declared.Constants.{Constants}
use Rattle.formulas.specs.declared.RamData.{RamData}
use Rattle.gates.specs.declared.Lengths.{Lengths}
use Rattle.gates.specs.Gate.{length_tests, range_tests, infrared_tests, temperature_tests, one_pass_tests}

-- the caller's slices are long enough
pub record Long (l : Lengths) : Type 0 where
  pub table : l.size ≤ l.table
  pub pixels : 2 * l.size ≤ l.pixels
  pub destination : l.size ≤ l.destination
  pub mask : l.size ≤ l.mask

-- and the basic range is one of the camera's
pub record Open (l : Lengths) (ranges range : ℕ) : Type 0 where
  pub long : Long l
  pub within : range < ranges

module _ (l : Lengths) (more : List Test) (e : first_of (length_tests l ++ more) ≡ Ok tt) where
  long-and : Long l × (first_of more ≡ Ok tt)
  unfolding length_tests
  long-and =
      let t = passed _ _ _ e in
      let p = passed _ _ _ t.1 in
      let d = passed _ _ _ p.1 in
      let m = passed _ _ _ d.1 in
      (record { table = ltb-false _ _ t.0; pixels = ltb-false _ _ p.0; destination = ltb-false _ _ d.0; mask = ltb-false _ _ m.0 }, m.1)

pub infrared-opened : (c : Constants) (e : Float) (ram : RamData) (l : Lengths) → first_of (infrared_tests c e ram l) ≡ Ok tt → Long l
infrared-opened c e ram l p = (long-and l _ p).0

opened-to : (l : Lengths) (ranges range : ℕ) (more : List Test) → first_of (length_tests l ++ (range_tests ranges range ++ more)) ≡ Ok tt → Open l ranges range
unfolding range_tests
opened-to l ranges range more p =
    let q = long-and l _ p in
    record { long = q.0; within = leb-false ranges range (passed _ _ _ q.1).0 }

pub temperature-opened : (e : Float) (ranges range : ℕ) (l : Lengths) → first_of (temperature_tests e ranges range l) ≡ Ok tt → Open l ranges range
temperature-opened e ranges range l p = opened-to l ranges range _ p

pub one-pass-opened : (c : Constants) (e : Float) (ram : RamData) (ranges range : ℕ) (l : Lengths) → first_of (one_pass_tests c e ram ranges range l) ≡ Ok tt → Open l ranges range
one-pass-opened c e ram ranges range l p = opened-to l ranges range _ p

-- if both of two verdicts pass, the first does
first_passes : (x y : Result ⊤ Refusal) → unless x y x ≡ Ok tt → x ≡ Ok tt
first_passes (Ok _) y e = refl
first_passes (Err refusal) y e = absurd (never refusal e)

pub ranged-opened : (c : Constants) (e : Float) (ram : RamData) (ranges range : ℕ) (l : Lengths) (corners : List ℤ)
    → first_of (one_pass_tests c e ram ranges range l ++ corner_tests ranges corners) ≡ Ok tt → Open l ranges range
ranged-opened c e ram ranges range l corners p = one-pass-opened c e ram ranges range l (first_passes _ _ (in-turn _ _ ∙ p))
