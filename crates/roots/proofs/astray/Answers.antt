-- `roots::astray` meets its contract: both parts of the OR are below 2 ^ 63, so neither difference has wrapped. Assumes nothing.
use Rattle.std.proofs.Common.{arith}
use Rattle.root.proofs.Squares.{square_le, or-below}
use Rattle.roots.proofs.astray.Goals as goal

pub returns : goal.returns
returns c h =
    let o = or-below {a = c.wrapping_add_u64.result} {b = c.wrapping_sub_u64.result} h in
    let s = square_le {a = c.args.q} {b = 0xFFFFFF} (omega arith) in
    record { low = omega arith; high = omega arith }
