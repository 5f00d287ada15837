-- `eeprom::data_gate` meets its contract: each return is one line of the list of tests. Assumes nothing.
use borrow.Author.Tests.{le-leb, lt-leb, lt-ltb, le-ltb}
use Prim.Native.Nat.{ℕ, ◌<◌, ◌≤◌}
use mathlib.Core.Path.{◌≡◌, sym, ◌∙◌}
use native.Mathlib.Omega.{arith}
use Rattle.std.specs.Prelude.{⊤, Result, Ok, Err, Some, None}
use Rattle.refusal.specs.declared.Refusal.{Refusal}
use Rattle.refusal.specs.declared.Refusal.TheVariants.{LargeScale, BasicRange, ZeroFactor}
use Rattle.refusal.specs.Order.{first_of}
use Rattle.util.specs.Found.{found_below}
use Rattle.util.proofs.Found.{some-below, none-below}
use Rattle.card.specs.Inner.{at}
use Rattle.offsets.specs.Offsets.{scales, offset_scale}
use Rattle.calibration.specs.Calibration.{ranges_of}
use Rattle.calibration.specs.Coefficients.{range_count, zero_factor}
use Rattle.eeprom.specs.Load.{data_tests}
use Rattle.eeprom.proofs.data_gate.Goals as goal

-- the tests, line by line
module _ (w : ℕ → ℕ) (range : ℕ) where
  large-scale : (scale : ℕ) → scale ≡ offset_scale w → scales ≤ scale → ◌≡◌ {A = Result ⊤ Refusal} (Err (LargeScale scale)) (first_of (data_tests w range))
  unfolding data_tests first_of
  large-scale scale e h = simp (e, le-leb _ _ (rw e at h))

  module _ (s : offset_scale w < scales) where
    no-range : range_count ≤ range → ◌≡◌ {A = Result ⊤ Refusal} (Err (BasicRange range)) (first_of (data_tests w range))
    unfolding data_tests first_of
    no-range h = simp (lt-leb _ _ s, le-leb _ _ h)

    module _ (i : range < range_count) where
      zero : (place : ℕ) → Some place ≡ found_below range_count (zero_factor (ranges_of w) range) → ◌≡◌ {A = Result ⊤ Refusal} (Err (ZeroFactor place)) (first_of (data_tests w range))
      unfolding data_tests first_of
      zero place e = let p = some-below _ _ (sym e) in simp (sym p.0, lt-leb _ _ s, lt-leb _ _ i, lt-ltb _ _ p.1)

      none : found_below range_count (zero_factor (ranges_of w) range) ≡ None → ◌≡◌ {A = Result ⊤ Refusal} (Ok tt) (first_of (data_tests w range))
      unfolding data_tests first_of
      none h = simp (lt-leb _ _ s, lt-leb _ _ i, le-ltb _ _ (none-below _ _ h))

pub returns-then-scale-ge-SCALES : goal.returns-then-scale-ge-SCALES
returns-then-scale-ge-SCALES c = let a = c.args in large-scale (at a.words.now) a.basic_range _ c.offset_scale-scale.ensures (omega arith)

pub returns-then-basic_range-ge-RANGES : goal.returns-then-basic_range-ge-RANGES
returns-then-basic_range-ge-RANGES c = let a = c.args in no-range (at a.words.now) a.basic_range (let e = c.offset_scale-scale.ensures in omega arith) (omega arith)

pub returns-in-Some : goal.returns-in-Some
returns-in-Some c = zero (at c.args.words.now) c.args.basic_range (let e = c.offset_scale-scale.ensures in omega arith) (omega arith) _ c.in-Some.ensures

pub returns : goal.returns
returns c =
    none (at c.args.words.now) c.args.basic_range (let e = c.offset_scale-scale.ensures in omega arith) (omega arith) (sym c.zero_factor.ensures ∙ c.in_default.is)
