-- `util::swapped_at` meets its contract: both bytes are in range, and exchanging them twice gives the word. Assumes nothing.
use mathlib.Core.Path.{ap, ◌∙◌}
use Prim.Native.Nat.{◌+◌, ◌*◌}
use Rattle.util.specs.Words.{swapped, word_at}
use Rattle.util.proofs.Words.{swapped-twice}
use Rattle.util.proofs.swapped_at.Goals as goal

pub returns : goal.returns
unfolding word_at
returns c =
    let i = c.args.index in
    let byte = c.shared_slice_known-3-1.given in
    ap swapped c.big_endian.ensures ∙ swapped-twice _ _ (byte (i * 2)).fits (byte (i * 2 + 1)).fits
