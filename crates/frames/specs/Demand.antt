-- Demand 3 for a frame: if 2 ^ 32 ≤ X < 2 ^ 36 for a pixel that is written, its bits hold a temperature within 1/32768 degree of X's exact fourth root minus
-- 8950579/32768; and of two such pixels, of any frames, the one with the larger X is not the colder. Assumes nothing.
use Rattle.std.specs.Prelude.{ℕ, ◌<◌, ◌≡◌, true, List, T, ⊤, Result, Ok, Float}
use Rattle.std.specs.Float.Ieee.{le, lt}
use Rattle.floats.specs.Floats.{power_of_two}
use Rattle.root.specs.Demand.{Near4}
use Rattle.refusal.specs.declared.Refusal.{Refusal}
use Rattle.pixels.specs.Pixels.{touched, held}
use Rattle.frames.specs.Frames.{ToCall, PassCall, onward, infrared_at, final_at, to_verdict, pass_verdict}
use Rattle.frames.specs.Ranged.{ranged_at, ranged_verdict}

-- a call that writes temperatures: the number of pixels, its verdict, its mask, X of each pixel, and the destination afterwards
pub record Written : Type 0 where
  pub size : ℕ
  pub verdict : Result ⊤ Refusal
  pub mask : List ℕ
  pub X : ℕ → Float
  pub left : List ℕ

-- pixel k is written, and its X is in the range of demand 3
pub record Hot (w : Written) (k : ℕ) : Type 0 where
  pub passed : w.verdict ≡ Ok tt
  pub below : k < w.size
  pub asked : touched w.mask k ≡ true
  pub from : T (le (power_of_two 32) (w.X k))
  pub under : T (lt (w.X k) (power_of_two 36))

-- the demand, for any two calls
pub record AsGood (w z : Written) : Type 0 where
  pub near : (k : ℕ) → Hot w k → Near4 (w.X k) (held w.left k)
  pub grows : (k j : ℕ) → Hot w k → Hot z j → T (le (w.X k) (z.X j)) → T (le (held w.left k) (held z.left j))

-- ---- the calls, with destination d before and d' after

-- infrared to temperature
abbrev pub written_to : ToCall → List ℕ → List ℕ → Written
written_to f d d' = record { size = f.size; verdict = to_verdict f d; mask = f.mask; X = final_at f (held d); left = d' }

-- one pass
abbrev pub written_pass : PassCall → List ℕ → List ℕ → Written
written_pass f d d' = record { size = f.ir.size; verdict = pass_verdict f d; mask = f.ir.mask; X = final_at (onward f) (infrared_at f.ir); left = d' }

-- the second pass
abbrev pub written_ranged : PassCall → List ℕ → List ℕ → Written
written_ranged f d d' = record { size = f.ir.size; verdict = ranged_verdict f d; mask = f.ir.mask; X = ranged_at (onward f) (infrared_at f.ir); left = d' }
