-- The nearest square root, defined by numbers without reference to bits. Assumes nothing.
use Rattle.std.specs.Prelude.{ℕ, ◌+◌, ◌*◌, ◌^◌, ◌<◌, false, T, Float}
use Rattle.std.specs.Float.{binary32}
use Rattle.std.specs.Float.Ieee.{fits}
use Rattle.std.specs.Float.Ieee.Exact.{HasValue}

-- r is nearer to the square root of x than any other non-negative binary32 y: the midpoint of r and y lies on y's side of the root. x, r and y are X, R and Y
-- times 2 ^ -149. In these units the root is the square root of X * 2 ^ 149, and twice the root is that of four times as much.
pub record NearestRoot (x r : Float) : Type 0 where
  pub X : ℕ
  pub R : ℕ
  pub x_is : HasValue x false X (2 ^ 149)
  pub r_is : HasValue r false R (2 ^ 149)
  pub above : (y : Float) (Y : ℕ) → T (fits binary32 y) → HasValue y false Y (2 ^ 149) → Y < R → (Y + R) ^ 2 < 4 * (X * 2 ^ 149)
  pub below : (y : Float) (Y : ℕ) → T (fits binary32 y) → HasValue y false Y (2 ^ 149) → R < Y → 4 * (X * 2 ^ 149) < (R + Y) ^ 2
