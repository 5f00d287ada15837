-- What holds once the gate of a load has passed. Assumes nothing.
use Prim.Native.Nat.{ℕ, min, ◌≤◌}
use mathlib.Core.Path.{◌≡◌}
use mathlib.Core.List.{List}
use native.Mathlib.Omega.{arith}
use lib.ListN.{length}
use borrow.Author.Tests.{ltb-false, leb-false}
use Rattle.std.specs.Prelude.{Ok}
use Rattle.refusal.proofs.Order.{passed}
use Rattle.sums640.specs.Sums.{pixel_count}
use Rattle.load640.specs.Load.{Tables, data_tests, load_tests, load_verdict}
use Rattle.load640.specs.Inner.{Passed}

each : (a b c : ℕ) → pixel_count ≤ min a (min b c) → (pixel_count ≤ a) × (pixel_count ≤ b) × (pixel_count ≤ c)
each a b c h = (omega arith, omega arith, omega arith)

pub opened : (image : List ℕ) (range : ℕ) (t : Tables) → load_verdict image range t ≡ Ok tt → Passed image range t
unfolding load_tests data_tests
opened image range t e =
    let p = passed _ _ _ e in
    let q = passed _ _ _ p.1 in
    let r = passed _ _ _ q.1 in
    let s = passed _ _ _ r.1 in
    let long = each (length t.offsets) (length t.alpha) (length t.k_ta) (ltb-false _ _ q.0) in
    record {
      long = ltb-false _ _ p.0;
      basic = leb-false _ _ s.0;
      offsets = long.0;
      alpha = long.1;
      k_ta = long.2;
    }
