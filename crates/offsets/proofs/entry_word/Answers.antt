-- `offsets::entry_word` meets its contract, for each subpage. Assumes nothing.
use borrow.Author.Tests.{lt-ltb, le-ltb}
use mathlib.Core.Path.{sym}
use Prim.Native.Nat.{◌-◌}
use native.Mathlib.Omega.{arith}
use Rattle.map.proofs.Words.{offset0-at, offset1-at}
use Rattle.offsets.proofs.entry_word.Goals as goal

pub returns-then-entry-lt-PIXELS : goal.returns-then-entry-lt-PIXELS
returns-then-entry-lt-PIXELS c = (rw (lt-ltb _ _ c.if-entry-lt-PIXELS.true) (sym (offset0-at _ c.if-entry-lt-PIXELS.true)), omega arith)

pub returns-else-entry-lt-PIXELS : goal.returns-else-entry-lt-PIXELS
returns-else-entry-lt-PIXELS c = (rw (le-ltb _ _ c.if-entry-lt-PIXELS.false) (sym (offset1-at (c.args.entry - 192) (omega arith))), omega arith)
