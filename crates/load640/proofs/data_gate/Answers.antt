-- `load640::data_gate` meets its contract: each return is one line of the definition. Assumes nothing.
use borrow.Author.Tests.{le-leb, lt-leb, lt-ltb, le-ltb}
use Prim.Native.Nat.{ℕ, ◌<◌, ◌≤◌}
use mathlib.Core.Path.{◌≡◌, sym, ◌∙◌}
use native.Mathlib.Omega.{arith}
use Rattle.std.specs.Prelude.{Ok, Err}
use Rattle.refusal.specs.declared.Refusal.TheVariants.{LargePixel, BasicRange, ZeroFactor}
use Rattle.refusal.specs.Order.{first_of}
use Rattle.util.specs.Words.{word_at}
use Rattle.util.proofs.Found.{some-below, none-below}
use Rattle.sums640.specs.Sums.{pixel_count, first_outside}
use Rattle.load640.specs.Load.{range_count, zero_range, data_tests}
use Rattle.load640.proofs.data_gate.Goals as goal

-- the tests, line by line
module _ (w : ℕ → ℕ) (range : ℕ) where
  large : (pixel : ℕ) → (first_outside w ≡ pixel) × (first_outside w < pixel_count) → Err (LargePixel pixel) ≡ first_of (data_tests w range)
  unfolding data_tests first_of
  large pixel h = simp (h.0, lt-ltb _ _ (rw h.0 at h.1))

  module _ (s : pixel_count ≤ first_outside w) where
    no-range : range_count ≤ range → Err (BasicRange range) ≡ first_of (data_tests w range)
    unfolding data_tests first_of
    no-range h = simp (le-ltb _ _ s, le-leb _ _ h)

    module _ (i : range < range_count) where
      zero : (place : ℕ) → (zero_range w range ≡ place) × (zero_range w range < range_count) → Err (ZeroFactor place) ≡ first_of (data_tests w range)
      unfolding data_tests first_of
      zero place h = simp (h.0, le-ltb _ _ s, lt-leb _ _ i, lt-ltb _ _ (rw h.0 at h.1))

      none : range_count ≤ zero_range w range → Ok tt ≡ first_of (data_tests w range)
      unfolding data_tests first_of
      none h = simp (le-ltb _ _ s, lt-leb _ _ i, le-ltb _ _ h)

pub returns-in-Some : goal.returns-in-Some
returns-in-Some c = large _ _ _ (some-below _ _ (sym c.first_outside.ensures ∙ c.in-Some.is))

pub returns-then-basic_range-ge-RANGES : goal.returns-then-basic_range-ge-RANGES
returns-then-basic_range-ge-RANGES c = no-range (word_at c.args.image.now) _ (none-below _ _ (sym c.first_outside.ensures ∙ c.in_default.is)) (omega arith)

pub returns-in-Some-zero_factor : goal.returns-in-Some-zero_factor
returns-in-Some-zero_factor c =
    zero _ _ (none-below _ _ (sym c.first_outside.ensures ∙ c.in_default.is)) (omega arith) _ (some-below _ _ (sym c.zero_factor.ensures ∙ c.in-Some-zero_factor.is))

pub returns : goal.returns
returns c =
    none _ _ (none-below _ _ (sym c.first_outside.ensures ∙ c.in_default.is)) (omega arith) (none-below _ _ (sym c.zero_factor.ensures ∙ c.in_default-zero_factor.is))
