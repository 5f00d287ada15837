-- `load640::gate` meets its contract: each return is one line of the list of tests, and if it passes the list of shared numbers is filled. Assumes nothing.
use borrow.Author.Tests.{lt-ltb, le-ltb}
use mathlib.Core.Path.{◌≡◌, sym, ◌∙◌}
use mathlib.Core.List.{List}
use Prim.Native.Nat.{ℕ, ◌<◌, ◌≤◌}
use native.Mathlib.Omega.{arith}
use lib.ListN.{length}
use Rattle.refusal.specs.declared.Refusal.TheVariants.{ShortImage, ShortTable}
use Rattle.std.specs.Prelude.{Err}
use Rattle.refusal.specs.Order.{first_of}
use Rattle.util.specs.Words.{word_at}
use Rattle.sums640.specs.Sums.{pixel_count}
use Rattle.load640.specs.Load.{image_bytes, data_tests, load_tests}
use Rattle.load640.proofs.gate.Goals as goal

-- the tests, line by line
module _ (image : List ℕ) (range table : ℕ) where
  short-image : length image < image_bytes → Err (ShortImage (length image)) ≡ first_of (load_tests image range table)
  unfolding load_tests first_of
  short-image h = simp (lt-ltb _ _ h)

  module _ (l : image_bytes ≤ length image) where
    short-table : table < pixel_count → Err ShortTable ≡ first_of (load_tests image range table)
    unfolding load_tests first_of
    short-table h = simp (le-ltb _ _ l, lt-ltb _ _ h)

    of-data : pixel_count ≤ table → first_of (data_tests (word_at image) range) ≡ first_of (load_tests image range table)
    unfolding load_tests first_of
    of-data t = sym (simp (le-ltb _ _ l, le-ltb _ _ t))

pub returns-then-length-lt-IMAGE_BYTES-clause-value : goal.returns-then-length-lt-IMAGE_BYTES-clause-value
returns-then-length-lt-IMAGE_BYTES-clause-value c = let a = c.args in short-image a.image.now a.basic_range a.table (omega arith)

pub returns-then-table-lt-PIXELS-clause-value : goal.returns-then-table-lt-PIXELS-clause-value
returns-then-table-lt-PIXELS-clause-value c = let a = c.args in short-table a.image.now a.basic_range a.table (omega arith) (omega arith)

pub returns-clause-value : goal.returns-clause-value
returns-clause-value c = let a = c.args in c.data_gate.ensures ∙ of-data a.image.now a.basic_range a.table (omega arith) (omega arith)
