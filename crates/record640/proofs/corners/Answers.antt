-- `record640::corners` meets its contract: at most 30 steps of at most 30 degrees fit an i16. Assumes nothing.
use Prim.Native.Nat.{ℕ, ◌+◌, ◌*◌, ◌/◌, ◌%◌, ◌≤◌, ◌<◌}
use native.Mathlib.Nat.{le_trans, mod-lt, mul-le-mul_left, mul-le-mul_right}
use native.Mathlib.Omega.{arith}
use mir.Syntax.{w16}
use mir.ValLaws.{to_z_pos}
use Rattle.record640.specs.Record.{step_of, corners_of}
use Rattle.record640.proofs.corners.Goals as goal

most : (m n : ℕ) → m % 16 * step_of n ≤ 15 * 30
most m n =
    let p : m % 16 ≤ 15 = (let h : m % 16 < 16 = mod-lt m (omega arith) in omega arith) in
    let q : step_of n ≤ 30 = (let h : n / 4096 % 4 < 4 = mod-lt (n / 4096) (omega arith) in omega arith) in
    le_trans (mul-le-mul_left (m % 16) q) (mul-le-mul_right 30 p)

few : (n : ℕ) → (n / 16 % 16 * step_of n ≤ 15 * 30) × (n / 256 % 16 * step_of n ≤ 15 * 30)
few n = (most (n / 16) n, most (n / 256) n)

pub returns : goal.returns
unfolding corners_of
returns c =
    let n = c.args.word in
    let h = few n in
    rw (to_z_pos w16 (n / 16 % 16 * step_of n) (omega arith), to_z_pos w16 (n / 256 % 16 * step_of n + n / 16 % 16 * step_of n) (omega arith))
