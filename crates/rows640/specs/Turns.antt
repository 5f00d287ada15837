-- Two rows, repeated, give K_V and the access term of every pixel, and so of all 768. Assumes nothing.
use Rattle.std.specs.Prelude.{ℕ, ◌≡◌, List, Float}
use Rattle.std.specs.Float.{nan}
use Rattle.lists.specs.Each.{Each}
use Rattle.pixels.specs.Inner.{in_turn}
use Rattle.pixels.specs.Blocks.{is}
use Rattle.rows640.specs.declared.Pattern.{Pattern}
use Rattle.rows640.specs.Rows.{two_rows, k_v_at, access_at}

pub record Turns (four six : List Float) (p : Pattern) : Type 0 where
  pub k_v : {rows : List Float} → Each (is (k_v_at four)) nan rows two_rows → (k : ℕ) → in_turn rows 2 k ≡ k_v_at four k
  pub access : {rows : List Float} → Each (is (access_at p six)) nan rows two_rows → (k : ℕ) → in_turn rows 2 k ≡ access_at p six k
