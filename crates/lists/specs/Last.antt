-- The last index with a property. Assumes nothing.
use Rattle.std.specs.Prelude.{ℕ, zero, suc, Bool}
use Rattle.lists.specs.Pick.{pick}

-- the last of the numbers below n that passes the test; `none` if none does
unfoldable pub last_below : (ℕ → Bool) → ℕ → ℕ → ℕ
last_below p none zero = none
last_below p none (suc n) = pick (p n) n (last_below p none n)
