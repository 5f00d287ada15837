-- `eeprom::first_192` meets its contract, for a table that is short and for one that is not. Assumes nothing.
use borrow.Author.Tests.{lt-ltb, le-ltb}
use Prim.Native.Nat.{◌<◌}
use native.Mathlib.Omega.{arith}
use lib.ListN.{length}
use Rattle.map.specs.Map.{frame_pixels}
use Rattle.eeprom.specs.Parts.{first192}
use Rattle.eeprom.proofs.first_192.Goals as goal

pub returns-then-table-lt-PIXELS : goal.returns-then-table-lt-PIXELS
unfolding first192
returns-then-table-lt-PIXELS c = let h : length c.args.table.now < frame_pixels = omega arith in simp (lt-ltb _ _ h)

pub returns-else-table-lt-PIXELS : goal.returns-else-table-lt-PIXELS
unfolding first192
returns-else-table-lt-PIXELS c = simp (le-ltb _ _ c.if-table-lt-PIXELS.false)
