-- Two rows, repeated, are all rows: proves specs/Turns. Assumes nothing.
use Prim.Native.Nat.{ℕ, ◌+◌, ◌*◌, ◌/◌, ◌%◌}
use mathlib.Core.Path.{◌≡◌, refl, ap₂, ◌∙◌}
use mathlib.Core.List.{List}
use native.Mathlib.Omega.{arith}
use lib.Dec.{eqb}
use lib.ListN.{get_or}
use lib.Ieee.{Float, nan}
use Rattle.lists.specs.Pick.{pick}
use Rattle.lists.specs.Each.{Each}
use Rattle.roots.specs.Many.{side}
use Rattle.pixels.specs.Inner.{in_turn}
use Rattle.pixels.specs.Blocks.{is}
use Rattle.mlx90640.specs.Pixels.{turns, chessboard_at, interleave_at}
use Rattle.rows640.specs.declared.Pattern.{Pattern}
use Rattle.rows640.specs.declared.Pattern.TheVariants.{Chess, Interleave}
use Rattle.rows640.specs.Rows.{two_rows, k_v_at, access_at}
use Rattle.rows640.specs.Turns.{Turns}

-- the index of pixel k's entry in two rows
abbrev place : ℕ → ℕ
place k = k / side % 2 * side + k % side

-- what depends on the row's parity and the column alone is the same for pixel k and for that entry
same : (f : ℕ → ℕ → Float) (k : ℕ) → f (place k / 32 % 2) (place k % 32) ≡ f (k / 32 % 2) (k % 32)
same f k =
    let q : place k / 32 % 2 ≡ k / 32 % 2 = omega arith in
    let r : place k % 32 ≡ k % 32 = omega arith in
    ap₂ f q r

in-turn-of : (g : ℕ → Float) {rows : List Float} → Each (is g) nan rows two_rows → ((k : ℕ) → g (place k) ≡ g k) → (k : ℕ) → in_turn rows 2 k ≡ g k
unfolding in_turn
in-turn-of g e s k = e.at (place k) (omega arith) ∙ s k

k-v-turn : (four : List Float) (k : ℕ) → k_v_at four (place k) ≡ k_v_at four k
unfolding k_v_at chessboard_at
k-v-turn four k = same (λ (r c : ℕ). get_or four (pick (eqb (c % 2) 0) (pick (eqb r 0) 0 1) (pick (eqb r 0) 2 3)) nan) k

access-turn : (p : Pattern) (six : List Float) (k : ℕ) → access_at p six (place k) ≡ access_at p six k
unfolding access_at interleave_at
access-turn Chess six k = refl
access-turn Interleave six k = same (λ (r c : ℕ). get_or six (pick (eqb r 0) 0 3 + get_or turns (c % 4) 0) nan) k

pub all-rows : (four six : List Float) (p : Pattern) → Turns four six p
all-rows four six p = record { k_v = λ e k. in-turn-of _ e (k-v-turn four) k; access = λ e k. in-turn-of _ e (access-turn p six) k }
