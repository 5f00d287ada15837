-- Demand 3: how close the temperature is to the exact one, and that it never falls as X grows. Assumes nothing.
use Rattle.std.specs.Prelude.{ℕ, ◌+◌, ◌-◌, ◌^◌, ◌<◌, false, T, nat_lt, Float}
use Rattle.std.specs.Float.{binary32}
use Rattle.std.specs.Float.Ieee.{fits, le, lt}
use Rattle.std.specs.Float.Ieee.Exact.{HasValue}
use Rattle.lists.specs.Pick.{pick}
use Rattle.floats.specs.Floats.{power_of_two}
use Rattle.root.specs.Root.{celsius}

-- The temperature t is (q - 8950579) / 32768 exactly, negative if q is less, and x * 2 ^ 60 is the whole number X, with (q - 1)⁴ < X < (q + 1)⁴.
pub record Near4 (x t : Float) : Type 0 where
  pub q : ℕ
  pub X : ℕ
  pub value : HasValue x false X (2 ^ 60)
  pub degrees : HasValue t (nat_lt q 8950579) (pick (nat_lt q 8950579) (8950579 - q) (q - 8950579)) 32768
  pub low : (q - 1) ^ 4 < X
  pub high : X < (q + 1) ^ 4

-- a binary32 from 2 ^ 32 up to 2 ^ 36
pub record InDemand (x : Float) : Type 0 where
  pub is_f32 : T (fits binary32 x)
  pub from : T (le (power_of_two 32) x)
  pub under : T (lt x (power_of_two 36))

-- the demand, for the root alone
pub record AsGood : Type 0 where
  pub near : (x : Float) → InDemand x → Near4 x (celsius x)
  pub grows : (x y : Float) → InDemand x → InDemand y → T (le x y) → T (le (celsius x) (celsius y))
