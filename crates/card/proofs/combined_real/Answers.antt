-- `card::combined_real` meets its contract: a combined word is far below 2 ^ 24, so its conversion to f32 is exact. Assumes nothing.
use native.Mathlib.Omega.{arith}
use Prim.Native.Nat.{ℕ, ◌*◌, ◌<◌}
use lib.Bits.{or_lt}
use lib.Dec.{le→leb}
use lib.Ieee.{in_float}
use Rattle.util.specs.Fields.{combined}
use Rattle.card.proofs.combined_real.Goals as goal

small : (upper lower : ℕ) → upper < 65536 → lower < 65536 → combined upper lower < 0x200000
small upper lower h l = or_lt 21 (upper * 32) lower (omega arith) (omega arith)

pub int_to_float-result : goal.int_to_float-result
unfolding in_float
int_to_float-result c =
    let a = c in
    let e = c.combine.ensures in
    let h = small a.args.upper a.args.lower a.ranges.upper.fits a.ranges.lower.fits in
    le→leb c.combine.result 0x1000000 (omega arith)
