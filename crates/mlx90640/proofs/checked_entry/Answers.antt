-- `mlx90640::checked_entry` meets its contract, for pixel numbers below 768 and above. Assumes nothing.
use mathlib.Core.Path.{refl}
use native.Mathlib.Omega.{arith}
use borrow.Author.Tests.{lt-ltb, le-ltb}
use Rattle.mlx90640.specs.Pixels.{entry_of}
use Rattle.mlx90640.proofs.checked_entry.Goals as goal

pub returns-then-pixel-lt-NUM_PIXELS : goal.returns-then-pixel-lt-NUM_PIXELS
unfolding entry_of
returns-then-pixel-lt-NUM_PIXELS c = rw (lt-ltb c.args.pixel 768 (omega arith)) refl

pub returns-else-pixel-lt-NUM_PIXELS : goal.returns-else-pixel-lt-NUM_PIXELS
unfolding entry_of
returns-else-pixel-lt-NUM_PIXELS c = rw (le-ltb c.args.pixel 768 (omega arith)) refl
