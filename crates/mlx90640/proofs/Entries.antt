-- Pattern indices as the code computes them, by parity and by column, and their bounds. Assumes nothing.
use mathlib.Core.Path.{◌≡◌, refl}
use Prim.Native.Nat.{ℕ, zero, suc, ◌+◌, ◌*◌, ◌%◌, ◌<◌, ◌≤◌}
use native.Mathlib.Nat.{mod-lt}
use native.Mathlib.Omega.{arith}
use lib.Dec.{eqb}
use lib.ListN.{get_or}
use Rattle.lists.specs.Pick.{pick}
use Rattle.mlx90640.specs.Pixels.{row, column, turns, interleave_at, chessboard_at}

-- three times a remainder by two is 0 or 3
pub half : (a : ℕ) → a < 2 → a * 3 ≡ pick (eqb a 0) 0 3
half zero h = refl
half (suc zero) h = refl
half (suc (suc a)) h = absurd (let z : ⊥ = omega arith in z)

-- of four columns, those other than the second and the fourth take entry 0
pub first-of-three : (n : ℕ) → n < 4 → (n ≡ 1 → ⊥) → (n ≡ 3 → ⊥) → get_or turns n 0 ≡ 0
first-of-three zero h f g = refl
first-of-three (suc zero) h f g = absurd (f refl)
first-of-three (suc (suc zero)) h f g = refl
first-of-three (suc (suc (suc zero))) h f g = absurd (g refl)
first-of-three (suc (suc (suc (suc n)))) h f g = absurd (let z : ⊥ = omega arith in z)

-- the chessboard index from the parities of row and column
pub corner : (a b : ℕ) → a < 2 → b < 2 → a + b * 2 ≡ pick (eqb b 0) (pick (eqb a 0) 0 1) (pick (eqb a 0) 2 3)
corner zero zero h k = refl
corner zero (suc zero) h k = refl
corner (suc zero) zero h k = refl
corner (suc zero) (suc zero) h k = refl
corner zero (suc (suc b)) h k = absurd (let z : ⊥ = omega arith in z)
corner (suc zero) (suc (suc b)) h k = absurd (let z : ⊥ = omega arith in z)
corner (suc (suc a)) b h k = absurd (let z : ⊥ = omega arith in z)

-- ---- the indices are below the number of entries

turn-most : (n : ℕ) → n < 4 → get_or turns n 0 ≤ 2
turn-most zero h = omega arith
turn-most (suc zero) h = omega arith
turn-most (suc (suc zero)) h = omega arith
turn-most (suc (suc (suc zero))) h = omega arith
turn-most (suc (suc (suc (suc n)))) h = absurd (let z : ⊥ = omega arith in z)

pub interleave-lt : (pixel : ℕ) → interleave_at pixel < 6
unfolding interleave_at
interleave-lt pixel =
    let e = half (row pixel % 2) (mod-lt (row pixel) (omega arith)) in
    let l : row pixel % 2 < 2 = mod-lt (row pixel) (omega arith) in
    let t = turn-most (column pixel % 4) (mod-lt (column pixel) (omega arith)) in
    omega arith

pub chessboard-lt : (pixel : ℕ) → chessboard_at pixel < 4
unfolding chessboard_at
chessboard-lt pixel =
    let l : row pixel % 2 < 2 = mod-lt (row pixel) (omega arith) in
    let k : column pixel % 2 < 2 = mod-lt (column pixel) (omega arith) in
    let e = corner (row pixel % 2) (column pixel % 2) l k in
    omega arith
