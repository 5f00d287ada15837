-- `util::word_at` meets its contract: both bytes are in range. Assumes nothing.
use Rattle.util.specs.Words.{word_at}
use Rattle.util.proofs.word_at.Goals as goal

pub returns : goal.returns
unfolding word_at
returns c = c.big_endian.ensures
