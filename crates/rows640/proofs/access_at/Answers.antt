-- `rows640::access_at` meets its contract: for each case. Assumes nothing.
use mathlib.Core.Path.{refl}
use native.Mathlib.Omega.{arith}
use Rattle.mlx90640.proofs.Entries.{interleave-lt}
use Rattle.rows640.specs.Rows.{access_at}
use Rattle.rows640.proofs.access_at.Goals as goal

pub offset_bounds-six-entry : goal.offset_bounds-six-entry
offset_bounds-six-entry c = let e = c.interleave_at-entry.ensures in let l = interleave-lt c.args.k in omega arith

pub bounds-six-entry : goal.bounds-six-entry
bounds-six-entry c = let e = c.interleave_at-entry.ensures in let l = interleave-lt c.args.k in omega arith

pub returns-in-Chess : goal.returns-in-Chess
unfolding access_at
returns-in-Chess c = rw c.in-Chess.is

pub returns-in-Interleave : goal.returns-in-Interleave
unfolding access_at
returns-in-Interleave c = rw (c.in-Interleave.is, c.interleave_at-entry.ensures) refl
