-- `rows640::k_v_rows` meets its contract: entry by entry. Assumes nothing.
use borrow.Author.Rules.{rules}
use mathlib.Core.Path.{ap}
use Prim.Native.Nat.{ℕ}
use native.Mathlib.Omega.{arith}
use lib.ListN.{get_or}
use lib.Ieee.{nan}
use Rattle.lists.proofs.Each.{begun, entered, all-entered}
use Rattle.mlx90640.proofs.Entries.{chessboard-lt}
use Rattle.rows640.specs.Rows.{k_v_at}
use Rattle.rows640.proofs.k_v_rows.Goals as goal

pub loop-k-init : goal.loop-k-init
loop-k-init c = begun _

pub offset_bounds-four-entry : goal.offset_bounds-four-entry
offset_bounds-four-entry c = let e = c.chessboard_at-entry.ensures in let l = chessboard-lt c.loop-k.k in omega arith

pub bounds-four-entry : goal.bounds-four-entry
bounds-four-entry c = let e = c.chessboard_at-entry.ensures in let l = chessboard-lt c.loop-k.k in omega arith

pub loop-k-preserved : goal.loop-k-preserved
unfolding k_v_at
loop-k-preserved c =
    let a = c.args in
    entered c.loop-k.invariant c.loop-k-test.true (search rules) (ap (λ (e : ℕ). get_or a.four e nan) c.chessboard_at-entry.ensures)

pub returns : goal.returns
returns c = all-entered c.loop-k.invariant c.loop-k-test.false
