-- `hamming::odd` meets its contract: a number under a mask of 16 bits has all its ones among 16 bits. Assumes nothing.
use mathlib.Core.Path.{ap}
use Prim.Native.Nat.{ℕ, ◌%◌}
use lib.Bits.{bit_and, and_lt}
use Rattle.hamming.specs.Word.{parity}
use Rattle.hamming.proofs.Linear.{ones-in}
use Rattle.hamming.proofs.odd.Goals as goal

pub returns : goal.returns
unfolding parity
returns c =
    ap (λ (n : ℕ). n % 2) (ones-in 16 (bit_and c.args.word c.args.mask) (and_lt 16 c.args.word c.args.mask c.ranges.word.fits c.ranges.mask.fits))
